-- The head, then the place behind all entries: where there is one, the payload is whole.
use Prim.Native.Nat.{◌+◌}
use Rattle.group_sgpd.specs.Sgpd.{entry_count_of, entry_count_place}
use Rattle.base_fields.specs.Answer.{given}
use Rattle.base_fields.specs.Refusal.{told_value}
use Rattle.group_sgpd.proofs.Entries.{spans-after}
use Rattle.group_sgpd.proofs.Heads.{handed, head_of_lem, head-same, sgpd-spans, sgpd-refused}
use Rattle.group_sgpd.specs.Head.{head_of, head_at}
use mathlib.Core.Path.{ap, sym, ◌∙◌, ◌≡◌, refl}
use Rattle.group_sgpd.proofs.read_sgpd.Goals as goal
use Rattle.group_sgpd.proofs.read_sgpd.Goals.{In_ok-head}

-- the head that was read
read : (c : In_ok-head) → head_at c.args.s.now ≡ given c.in_ok-head.head
read c = sym (ap told_value (sym c.in_ok-head.was) ∙ c.sgpd_head.ensures)

pub returns-in_err-head : goal.returns-in_err-head
returns-in_err-head c =
    rw (handed c.from_residual.ensures, sgpd-refused c.args.s.now (sym (ap told_value (sym c.in_err-head.was) ∙ c.sgpd_head.ensures))) refl

pub skip_all-requires : goal.skip_all-requires
skip_all-requires c = head_of_lem _ (read c)

pub returns : goal.returns
returns c =
    let s = c.args.s.now in
    let e = ap told_value (sym c.in_ok-skip_all.was) ∙ c.skip_all.ensures in
    rw (sgpd-spans s (read (goal.at.returns c).In_ok-head), spans-after s (entry_count_of s) (entry_count_place s + 4) (given (head_of s)), ← e) (ap given (head-same s (read (goal.at.returns c).In_ok-head)))

pub returns-in_err-skip_all : goal.returns-in_err-skip_all
returns-in_err-skip_all c =
    let s = c.args.s.now in
    let e = ap told_value (sym c.in_err-skip_all.was) ∙ c.skip_all.ensures in
    rw (handed c.from_residual-in_err-skip_all.ensures, sgpd-spans s (read (goal.at.returns-in_err-skip_all c).In_ok-head), spans-after s (entry_count_of s) (entry_count_place s + 4) (given (head_of s)), ← e) refl
