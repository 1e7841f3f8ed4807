use mathlib.Core.Path.{◌≡◌, ap, ap₂, subst, sym, ◌∙◌}
use Prim.Native.Nat.{ℕ, ◌-◌, ◌*◌, ◌<◌}
use native.Mathlib.Omega.{arith}
use Rattle.std.specs.Prelude.{Result}
use Rattle.base_fields.specs.declared.refusal.Refusal.{Refusal}
use Rattle.base_fields.proofs.Handed.{handed}
use Rattle.table_csgp_head.specs.Head.{Fixed, pair_read}
use Rattle.table_csgp_head.specs.Indices.{GivesIndices}
use Rattle.table_csgp_head.specs.declared.PatternsAt.{PatternsAt}
use Rattle.table_csgp_head.proofs.Checked.{checked-all, checked-end, checked-pair, checked-empty, checked-cut, checked-next}
use Rattle.table_csgp_head.proofs.Large.{large-told}
use Rattle.table_csgp_head.proofs.head.check_patterns.Goals as goal
use Rattle.table_csgp_head.proofs.head.check_patterns.Goals.{After-check_indices, At-loop-here, Else-length-eq0}

module _ (c : At-loop-here) where
  fixed : Fixed c.args.s.now c.args.head
  fixed = c.requires.0

-- where the length of the next pattern is known, and is not 0
module _ (c : Else-length-eq0) where
  abbrev here : PatternsAt
  here = c.loop-here.here

  some : 0 < here.left
  some = c.loop-here-test.true

  abbrev size : c.length_at-length.result ≡ (pair_read c.args.s.now here.pair).pattern_length
  size = c.length_at-length.ensures

  filled : (pair_read c.args.s.now here.pair).pattern_length ≡ 0 → ⊥
  filled z = c.if-length-eq0.false (size ∙ z)

-- where its indices are checked
module _ (c : After-check_indices) where
  told : (r : Result Unit Refusal) → c.check_indices.result ≡ r →
      (let s = c.args.s.now in GivesIndices s c.loop-here.here.indices (pair_read s c.loop-here.here.pair).pattern_length r)
  told r e =
      let a = c.args in
      let q = c.loop-here.here.indices in
      subst (λ (n : ℕ). GivesIndices a.s.now q n r) c.length_at-length.ensures
      (subst (λ (x : Result Unit Refusal). GivesIndices a.s.now q c.length_at-length.result x) e c.check_indices.ensures)

pub loop-here-init : goal.loop-here-init
loop-here-init c = rw c.first_pattern-here.ensures (checked-all _ _ c.requires.0 c.requires.1)

pub length_at-length-requires : goal.length_at-length-requires
length_at-length-requires c =
    (fixed (goal.at.length_at-length-requires c).At-loop-here, checked-pair _ _ (fixed (goal.at.length_at-length-requires c).At-loop-here) c.loop-here.here c.loop-here.invariant c.loop-here-test.true)

pub returns-then-length-eq0 : goal.returns-then-length-eq0
returns-then-length-eq0 c =
    checked-empty _ _ (fixed (goal.at.returns-then-length-eq0 c).At-loop-here) c.loop-here.here c.loop-here.invariant c.loop-here-test.true (sym c.length_at-length.ensures ∙ c.if-length-eq0.true)

pub check_indices-requires : goal.check_indices-requires
check_indices-requires c =
    (c.requires.0, c.can_be_large-large.ensures ∙ large-told _ _ c.requires.0, c.loop-here.invariant.inside)

pub returns-in_err-check_indices : goal.returns-in_err-check_indices
returns-in_err-check_indices c =
    let known = (goal.at.returns-in_err-check_indices c).Else-length-eq0 in
    rw (handed c.from_residual.ensures)
    (checked-cut _ _ c.requires.0 c.loop-here.here c.loop-here.invariant (some known) (filled known) (told (goal.at.returns-in_err-check_indices c).After-check_indices _ c.in_err-check_indices.was))

pub patterns_behind-here-requires : goal.patterns_behind-here-requires
patterns_behind-here-requires c =
    let known = (goal.at.patterns_behind-here-requires c).Else-length-eq0 in
    let f = c.requires.0 in
    let p = checked-pair _ _ f c.loop-here.here c.loop-here.invariant (some known) in
    let inside = (told (goal.at.patterns_behind-here-requires c).After-check_indices _ c.in_ok-check_indices.was).inside in
    let behind = ap₂ (λ (w n : ℕ). w * n) f.index_bits (size known) in
    (some known, (omega (arith, f.length_bits, f.count_bits, f.short), omega (arith, f.short)))

pub loop-here-smaller : goal.loop-here-smaller
loop-here-smaller c =
    let e : c.patterns_behind-here.result.left ≡ c.loop-here.here.left - 1 = ap (λ (x : PatternsAt). x.left) c.patterns_behind-here.ensures in
    omega (arith, c.loop-here-test.true)

pub loop-here-preserved : goal.loop-here-preserved
loop-here-preserved c =
    let known = (goal.at.loop-here-preserved c).Else-length-eq0 in
    rw (c.patterns_behind-here.ensures, size known)
    (checked-next _ _ c.requires.0 c.loop-here.here c.loop-here.invariant (some known) (filled known) (told (goal.at.loop-here-preserved c).After-check_indices _ c.in_ok-check_indices.was))

pub returns : goal.returns
returns c = checked-end _ _ (fixed (goal.at.returns c).At-loop-here) c.loop-here.here c.loop-here.invariant (omega (arith, c.loop-here-test.false))
