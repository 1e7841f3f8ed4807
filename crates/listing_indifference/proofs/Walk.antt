-- The walk depends on headers and grouping types only.
use mathlib.Core.Path.{◌≡◌, refl, sym, ◌∙◌}
use mathlib.Core.Logic.{◌⊎◌, inl, inr}
use mathlib.Core.List.{List}
use mathlib.Core.Option.{none, some}
use Prim.Native.Nat.{ℕ, zero, suc, ◌+◌, ◌-◌, ◌*◌, ◌<◌, ◌≤◌}
use native.Mathlib.Omega.{arith}
use borrow.Author.Tests.{ltb-false, eqb-true}
use lib.Dec.{ltb, eqb}
use lib.ListN.{length}
use Rattle.base_fields.specs.Answer as answer
use Rattle.base_fields.specs.Answer.{Answer, given, refused, refuse_if, and_then}
use Rattle.base_fields.proofs.Agree.{be_same}
use Rattle.base_fields.proofs.Both.{choose-same}
use Rattle.base_fields.proofs.Answers.{and_then-same, given_inj, refused-given, given-past}
use Rattle.atom_tree.specs.Atom.{Known, Child, Ends, child_at, declared, or_done}
use Rattle.base_fields.specs.Span.{Span}
use Rattle.listing_spec.specs.Walk.{sbgp_type, csgp_type, sgpd_type, TakenTable, sbgp_at, csgp_at, Taken, nothing, body_of, grouping_of, visit_table, visit_sgpd, visit, walk_in, walk_from, sources}
use Rattle.atom_tree.proofs.Onward.{EndsAt, child-onward, or_done-same}
use Rattle.listing_indifference.specs.Bits.{Differ}
use Rattle.listing_indifference.specs.Body.{Reached, child_bytes, ChildListed, other_kind, in_sbgp, in_csgp, in_sgpd, BodyListed}
use Rattle.listing_indifference.proofs.Differ.{differ_same}
use Rattle.listing_indifference.proofs.Sbgp as sbgp
use Rattle.listing_indifference.proofs.CsgpSame as csgp
use Rattle.listing_indifference.proofs.Sgpd as sgpd
use Rattle.listing_indifference.proofs.Headers.{child-same, child-placed}
use Rattle.listing_indifference.proofs.Children.{listed_here, listed-before}

-- the body of a child that is looked at, to the child's end
pub record Whole (c : Child) (b : Span) : Type 0 where
  pub place : b.place ≡ c.head.body
  pub size : b.place + b.size ≡ c.next
  pub eight : 8 ≤ b.size

body-whole : (c : Child) (p place n short : ℕ) (size : Known) {b : Span} → place ≡ c.head.body → place ≡ p + n → Ends p n size → EndsAt p size c.next
    → and_then (declared place n size) (λ b. refuse_if (ltb b.size 8) short (given b)) ≡ given b → Whole c b
body-whole c p place n short none e f g h k = absurd (refused-given k)
body-whole c p place n short (some size) e f g h k =
    let x = given-past (ltb (size - n) 8) short _ k in
    rw (← (given_inj x.1)) (record { place = e; size = omega (arith, g.0); eight = ltb-false _ _ x.0 })

pub body-of : (s : List ℕ) (p short : ℕ) {c : Child} {b : Span} → child_at s p (some (length s)) ≡ given c → body_of short c.head ≡ given b → Whole c b
unfolding body_of
body-of s p short {c} e f =
    let o = child-onward s p (length s) e in
    body-whole c p c.head.body c.head.header_length short c.head.size refl o.sound.body o.sound.ends o.ends f

module _ (t : ℕ) (s s' : List ℕ) (d : Differ (BodyListed s t) s s') where
  abbrev child : ℕ → Answer Child
  child p = child_at s p (some (length s))

  module _ (n p : ℕ) (r : Reached s n p) where
    here-same : {c : Child} → child p ≡ given c → child p ≡ child_at s' p (some (length s'))
    here-same {c} e =
        let w = child-placed s p e in
        let kept : (i : ℕ) → 8 * p ≤ i → i < 8 * c.head.body → BodyListed s t i → ⊥ =
        (λ i u v z. omega (arith, w.ends, (listed_here s t n p r e i u (omega (arith, w.ends)) z).0)) in
        child-same s s' d.first d.second d.long p
        (differ_same d _ _ (λ i u v. kept i u (omega (arith, w.behind.eight))))
        (λ o. differ_same d _ _ (λ i u v. kept i (omega arith) (omega (arith, w.behind.more o))))

    cut-same : ((c : Child) → child p ≡ given c → ⊥) → child p ≡ child_at s' p (some (length s'))
    cut-same f =
        child-same s s' d.first d.second d.long p
        (differ_same d _ _ (λ i u v. listed-before s t n p r f i u)) (λ _. differ_same d _ _ (λ i u v. listed-before s t n p r f i (omega arith)))

    next-same : child p ≡ child_at s' p (some (length s'))
    next-same = by (child p) refl
      where
        by : (x : Answer Child) → child p ≡ x → child p ≡ child_at s' p (some (length s'))
        by (given c) g = here-same g
        by answer.none g = cut-same (λ c e. let z : ◌≡◌ {A = ℕ} 0 1 = cc in omega arith)
        by (refused m) g = cut-same (λ c e. refused-given (sym g ∙ e))

    module _ (c : Child) (e : child p ≡ given c) where
      abbrev Looked : Type 0
      Looked = (c.head.type ≡ sbgp_type) ⊎ ((c.head.type ≡ csgp_type) ⊎ (c.head.type ≡ sgpd_type))

      -- the grouping type of a child that is looked at
      type-kept : Looked → (j : ℕ) → 32 ≤ j → j < 64 → ChildListed s t c j → ⊥
      type-kept (inl k) j u v (other_kind x y z) = x k
      type-kept (inr (inl k)) j u v (other_kind x y z) = y k
      type-kept (inr (inr k)) j u v (other_kind x y z) = z k
      type-kept k j u v (in_sbgp x y) = sbgp.type-kept t (child_bytes s c) j u v y
      type-kept k j u v (in_csgp x y) = csgp.head-kept t _ (child_bytes s c) j (omega arith) v y
      type-kept k j u v (in_sgpd x y) = sgpd.type-kept t _ (child_bytes s c) j u v y

      grouping_same : Looked → (short : ℕ) {b : Span} → body_of short c.head ≡ given b → grouping_of s b ≡ grouping_of s' b
      grouping_same k short {b} f =
          let w = body-of s p short e f in
          let q = child-placed s p e in
          be_same 4 s s' (b.place + 4) d.first d.second
          (differ_same d _ _ (λ i u v z.
          let x = listed_here s t n p r e i (omega (arith, w.place, q.behind.eight)) (omega (arith, w.size, w.eight)) z in
          type-kept k (i - 8 * c.head.body) (omega (arith, w.place)) (omega (arith, w.place)) x.1))

      table_same : (at : Span → TakenTable) (seen : Taken) → Looked → visit_table s t at c.head seen ≡ visit_table s' t at c.head seen
      unfolding visit_table
      table_same at seen k = and_then-same (body_of 20 c.head) _ _ (λ b f. rw (grouping_same k 20 f))

      sgpd-same : (seen : Taken) → Looked → visit_sgpd s t c.head seen ≡ visit_sgpd s' t c.head seen
      unfolding visit_sgpd
      sgpd-same seen k = and_then-same (body_of 30 c.head) _ _ (λ b f. rw (grouping_same k 30 f))

      visit-same : (seen : Taken) → visit s t c.head seen ≡ visit s' t c.head seen
      unfolding visit
      visit-same seen =
          choose-same (eqb c.head.type sbgp_type) (λ k. table_same sbgp_at seen (inl (eqb-true _ _ k))) (λ _.
          choose-same (eqb c.head.type csgp_type) (λ k. table_same csgp_at seen (inr (inl (eqb-true _ _ k)))) (λ _.
          choose-same (eqb c.head.type sgpd_type) (λ k. sgpd-same seen (inr (inr (eqb-true _ _ k)))) (λ _. refl)))

  walk_same : (m n p : ℕ) (seen : Taken) → Reached s n p → walk_in m s t p seen ≡ walk_in m s' t p seen
  unfolding walk_in
  walk_same zero n p seen r = refl
  walk_same (suc m) n p seen r =
      rw (← (next-same n p r))
      (or_done-same (child p) seen _ _ (λ c e.
      rw (← (visit-same n p r c e seen))
      (and_then-same (visit s t c.head seen) _ _ (λ next f. walk_same m (suc n) c.next next (p, c, r, e, refl)))))

  -- the same table and sgpd are taken, or the same refusal is given
  pub sources-same : sources s t ≡ sources s' t
  unfolding sources walk_from
  sources-same = rw (← d.long, ← (walk_same (suc (length s - 0)) 0 0 nothing refl))
