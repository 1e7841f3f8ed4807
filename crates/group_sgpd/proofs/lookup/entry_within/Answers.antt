-- The entries before it are skipped, then it and those behind it: `reached` is its place, and `spans-pick` says that it is the entry asked for.
use Rattle.group_sgpd.proofs.Heads.{handed, first-is, count-is, among}
use Rattle.group_sgpd.proofs.Entries.{after-inside, spans-pick}
use Rattle.group_sgpd.specs.Sgpd.{entry_count_of, entry_count_place}
use Rattle.group_sgpd.specs.Head.{after, Among}
use Rattle.base_fields.specs.Answer.{given}
use Rattle.base_fields.specs.Refusal.{told_value}
use Prim.Native.Nat.{ℕ, ◌+◌, ◌-◌}
use native.Mathlib.Omega.{arith}
use mathlib.Core.Path.{◌≡◌, ap, sym, ◌∙◌}
use Rattle.group_sgpd.proofs.lookup.entry_within.Goals as goal
use Rattle.group_sgpd.proofs.lookup.entry_within.Goals.{In_ok-at}

pub skip-requires : goal.skip-requires
skip-requires c =
    let h = c.requires.head_of in
    record { among = among h c.lengths_by-lengths.ensures h.inside; n_le_count = omega arith }

-- the place behind the entries before it
reached : (c : In_ok-at) → let a = c.args in after (a.index.0 - 1) a.s.now (entry_count_place a.s.now + 4) ≡ given c.in_ok-at.at
reached c =
    let a = c.args in
    sym (ap told_value (sym c.in_ok-at.was) ∙ c.skip.ensures ∙ ap (λ (p : ℕ). after (a.index.0 - 1) a.s.now p) (first-is c.requires.head_of))

within : (c : In_ok-at) → let a = c.args in Among a.s.now c.lengths_by-lengths.result a.head.entry_count c.in_ok-at.at
within c =
    let h = c.requires.head_of in
    among h c.lengths_by-lengths.ensures (after-inside _ _ _ (rw (first-is h) at h.inside) (reached c))

pub returns-in_err-at : goal.returns-in_err-at
returns-in_err-at c =
    let s = c.args.s.now in
    let h = c.requires.head_of in
    let i = c.args.index.0 in
    let e = ap told_value (sym c.in_err-at.was) ∙ c.skip.ensures ∙ ap (λ (p : ℕ). after (i - 1) s p) (first-is h) in
    rw (handed c.from_residual.ensures) (sym (spans-pick s (entry_count_of s) i (entry_count_place s + 4) (omega arith) (omega (arith, count-is h)) ∙ rw (← e)))

pub skip-requires-2 : goal.skip-requires-2
skip-requires-2 c = record { among = within c; n_le_count = omega arith }

pub found_at-requires : goal.found_at-requires
found_at-requires c = record { among = within (goal.at.found_at-requires c).In_ok-at; count_nonzero = omega arith }

pub returns : goal.returns
returns c =
    let s = c.args.s.now in
    let h = c.requires.head_of in
    let i = c.args.index.0 in
    let e = ap told_value (sym c.in_ok-skip.was) ∙ c.skip-2.ensures ∙ ap (λ (n : ℕ). after (n - (i - 1)) s c.in_ok-at.at) (count-is h) in
    c.found_at.ensures
    ∙ sym (spans-pick s (entry_count_of s) i (entry_count_place s + 4) (omega (arith, c)) (omega (arith, c, count-is h)) ∙ rw (reached (goal.at.returns c).In_ok-at, ← e))

pub returns-in_err-skip : goal.returns-in_err-skip
returns-in_err-skip c =
    let s = c.args.s.now in
    let h = c.requires.head_of in
    let i = c.args.index.0 in
    let e = ap told_value (sym c.in_err-skip.was) ∙ c.skip-2.ensures ∙ ap (λ (n : ℕ). after (n - (i - 1)) s c.in_ok-at.at) (count-is h) in
    rw (handed c.from_residual-in_err-skip.ensures) (sym (spans-pick s (entry_count_of s) i (entry_count_place s + 4) (omega (arith, c)) (omega (arith, c, count-is h)) ∙ rw (reached (goal.at.returns-in_err-skip c).In_ok-at, ← e)))
