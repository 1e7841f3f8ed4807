-- The entries are counted before any is written.
use mathlib.Core.Path.{ap, sym, ◌∙◌}
use native.Mathlib.Omega.{arith}
use Rattle.base_fields.specs.Refusal.{told_value}
use Rattle.group_sgpd.specs.Head.{ReadWhole}
use Rattle.group_sgpd.proofs.Heads.{handed}
use Rattle.group_sgpd.proofs.Onward.{read_whole}
use Rattle.group_sgpd.proofs.Placed.{refusal-kept, no_room, room}
use Rattle.group_sgpd.proofs.places.entry_places.Goals as goal
use Rattle.group_sgpd.proofs.places.entry_places.Goals.{In_ok-head}

-- the head that was read
read : (c : In_ok-head) → ReadWhole c.args.s.now c.in_ok-head.head
read c = read_whole _ (sym (ap told_value (sym c.in_ok-head.was) ∙ c.read_sgpd.ensures))

pub returns-in_err-head : goal.returns-in_err-head
returns-in_err-head c = rw (handed c.from_residual.ensures) (refusal-kept _ _ _ (sym (ap told_value (sym c.in_err-head.was) ∙ c.read_sgpd.ensures)))

pub returns-then-run-count : goal.returns-then-run-count
returns-then-run-count c = no_room _ _ (read (goal.at.returns-then-run-count c).In_ok-head) c.if-run-count.true

pub put_places-requires : goal.put_places-requires
put_places-requires c = record { read_whole = read (goal.at.put_places-requires c).In_ok-head; entry_count_in_bounds = omega arith }

pub returns : goal.returns
returns c =
    room _ _ (read (goal.at.returns c).In_ok-head) _ c.if-run-count.false c.put_places.ensures
