use Prim.Native.Nat.{◌+◌}
use Rattle.group_sgpd.specs.Sgpd.{entry_count_of, entry_count_place}
use Rattle.group_sgpd.proofs.Heads.{handed, count-is}
use Rattle.group_sgpd.proofs.Entries.{spans-none}
use Rattle.base_fields.specs.Refusal.{told_value}
use native.Mathlib.Omega.{arith}
use mathlib.Core.Path.{ap, sym, ◌∙◌}
use Rattle.group_sgpd.proofs.lookup.no_entry.Goals as goal

pub returns : goal.returns
returns c =
    let s = c.args.s.now in
    let e = ap told_value (sym c.in_ok-skip_all.was) ∙ c.skip_all.ensures in
    sym (spans-none s (entry_count_of s) c.args.index.0 (entry_count_place s + 4) (λ h. omega (arith, c.requires.entry_count_bound h, count-is c.requires.head_of)) ∙ rw (← e))

pub returns-in_err-skip_all : goal.returns-in_err-skip_all
returns-in_err-skip_all c =
    let s = c.args.s.now in
    let e = ap told_value (sym c.in_err-skip_all.was) ∙ c.skip_all.ensures in
    rw (handed c.from_residual.ensures) (sym (spans-none s (entry_count_of s) c.args.index.0 (entry_count_place s + 4) (λ h. omega (arith, c.requires.entry_count_bound h, count-is c.requires.head_of)) ∙ rw (← e)))
