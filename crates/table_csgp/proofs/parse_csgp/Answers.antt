-- The reader's refusals first, then those of the replay that counts the rows; then the rows are given, and `fill` writes them.
use mathlib.Core.Path.{◌≡◌, sym}
use mathlib.Core.List.{List}
use lib.ListN.{length}
use Rattle.base_fields.specs.Answer.{given}
use Rattle.base_fields.proofs.Answers.{given_inj, given-first}
use Rattle.base_fields.proofs.Handed.{handed}
use Rattle.table_rows.specs.Row.{Row, records_in}
use Rattle.table_csgp_head.specs.Head.{CsgpLaid}
use Rattle.table_csgp.specs.Rows.{rows_for}
use Rattle.table_csgp.proofs.Parse.{parse_refused, parse_given, refused-rows}
use Rattle.table_csgp.proofs.parse_csgp.Goals as goal
use Rattle.table_csgp.proofs.parse_csgp.Goals.{In_ok-head, In_ok-entry_count}

-- the head that was read
laid : (c : In_ok-head) → CsgpLaid c.args.s.now c.in_ok-head.head
laid c = rw c.in_ok-head.was at c.read_csgp.ensures

-- the rows that were counted
rows-given : (c : In_ok-entry_count) → (out : List Row) × (let a = c.args in rows_for a.s.now (records_in a.rows.now) ≡ given out) × (given (length out) ≡ given c.in_ok-entry_count.entry_count)
rows-given c = let a = c.args in given-first (rows_for a.s.now (records_in a.rows.now)) (λ out. given (length out)) (sym c.in_ok-entry_count.ensures)

pub returns-in_err-head : goal.returns-in_err-head
returns-in_err-head c =
    rw (handed c.from_residual.ensures) (parse_refused _ _ _ _ (rw (rw c.in_err-head.was at c.read_csgp.ensures)))

pub measure-requires : goal.measure-requires
measure-requires c = laid (goal.at.measure-requires c).In_ok-head

pub returns-in_err-entry_count : goal.returns-in_err-entry_count
returns-in_err-entry_count c =
    rw (handed c.from_residual-in_err-entry_count.ensures) (parse_refused _ _ _ _ (refused-rows _ _ _ c.in_err-entry_count.ensures))

pub fill-requires : goal.fill-requires
fill-requires c =
    let o = rows-given (goal.at.fill-requires c).In_ok-entry_count in
    (laid (goal.at.fill-requires c).In_ok-head, (o.0, o.1))

pub returns : goal.returns
returns c =
    let o = rows-given (goal.at.returns c).In_ok-entry_count in
    parse_given _ _ _ (laid (goal.at.returns c).In_ok-head).fixed _ _ o.1 c.fill.ensures _ (sym (given_inj o.2))
