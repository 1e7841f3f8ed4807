use native.Mathlib.Omega.{arith}
use Rattle.base_fields.proofs.Handed.{handed}
use Rattle.table_sbgp.specs.Head.{SbgpLaid}
use Rattle.table_sbgp.proofs.Table.{refusal, no_room, room}
use Rattle.table_sbgp.proofs.parse_sbgp.Goals as goal
use Rattle.table_sbgp.proofs.parse_sbgp.Goals.{In_ok-head}

-- the head that was read
laid : (c : In_ok-head) → SbgpLaid c.args.s.now c.in_ok-head.head
laid c = rw c.in_ok-head.was at c.read_sbgp.ensures

pub returns-then-record_count-count : goal.returns-then-record_count-count
returns-then-record_count-count c = no_room _ _ _ (laid (goal.at.returns-then-record_count-count c).In_ok-head) (rw c.record_count.ensures at c.if-record_count-count.true)

pub fill-requires : goal.fill-requires
fill-requires c = ((laid (goal.at.fill-requires c).In_ok-head).inside, omega arith)

pub returns : goal.returns
returns c =
    room _ _ _ (laid (goal.at.returns c).In_ok-head) _ (rw c.record_count.ensures at c.if-record_count-count.false) c.fill.ensures

pub returns-in_err-head : goal.returns-in_err-head
returns-in_err-head c =
    rw (handed c.from_residual.ensures) (refusal _ _ _ (rw c.in_err-head.was at c.read_sbgp.ensures))
