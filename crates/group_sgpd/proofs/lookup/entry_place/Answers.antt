-- The head's refusals; number 0 and one past the count are no entry's; else an entry within the count.
use Rattle.group_sgpd.proofs.Heads.{handed, head_of_lem, sgpd-spans, sgpd-refused}
use Rattle.group_sgpd.specs.Head.{head_at}
use Rattle.base_fields.specs.Answer.{given}
use Rattle.base_fields.specs.Refusal.{told_value}
use native.Mathlib.Omega.{arith}
use mathlib.Core.Path.{◌≡◌, refl, ap, sym, ◌∙◌}
use Rattle.group_sgpd.proofs.lookup.entry_place.Goals as goal
use Rattle.group_sgpd.proofs.lookup.entry_place.Goals.{In_ok-head}

-- the head that was read
read : (c : In_ok-head) → head_at c.args.s.now ≡ given c.in_ok-head.head
read c = sym (ap told_value (sym c.in_ok-head.was) ∙ c.sgpd_head.ensures)

pub returns-in_err-head : goal.returns-in_err-head
returns-in_err-head c =
    rw (handed c.from_residual.ensures, sgpd-refused c.args.s.now (sym (ap told_value (sym c.in_err-head.was) ∙ c.sgpd_head.ensures))) refl

pub no_entry-requires : goal.no_entry-requires
no_entry-requires c = record { head_of = head_of_lem _ (read (goal.at.no_entry-requires c).In_ok-head); entry_count_bound = λ h. absurd (omega arith) }

pub returns-then-i-eq0 : goal.returns-then-i-eq0
returns-then-i-eq0 c = c.no_entry.ensures ∙ rw (sgpd-spans _ (read (goal.at.returns-then-i-eq0 c).In_ok-head)) refl

pub no_entry-requires-then-head-i : goal.no_entry-requires-then-head-i
no_entry-requires-then-head-i c = record { head_of = head_of_lem _ (read (goal.at.no_entry-requires-then-head-i c).In_ok-head); entry_count_bound = λ h. c.if-head-i.true }

pub returns-then-head-i : goal.returns-then-head-i
returns-then-head-i c = c.no_entry-then-head-i.ensures ∙ rw (sgpd-spans _ (read (goal.at.returns-then-head-i c).In_ok-head)) refl

pub entry_within-requires : goal.entry_within-requires
entry_within-requires c = record { head_of = head_of_lem _ (read (goal.at.entry_within-requires c).In_ok-head); index_nonzero = (omega arith, c.if-head-i.false) }

pub returns : goal.returns
returns c = c.entry_within.ensures ∙ rw (sgpd-spans _ (read (goal.at.returns c).In_ok-head)) refl
