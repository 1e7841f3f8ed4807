-- The stages in their order, by the laws of `Opening`: the walk, the table's structure, its rows, the descriptions.
use mathlib.Core.Path.{◌≡◌, ap, sym, ◌∙◌}
use mathlib.Core.List.{List}
use Prim.Native.Nat.{ℕ}
use Rattle.base_fields.specs.Answer.{given, and_then}
use Rattle.std.proofs.lemmas.Result.{err_from_is_err_and}
use Rattle.table_records.specs.Lent.{table_from}
use Rattle.table_runs.specs.Ahead.{all_in, ahead_in, Held}
use Rattle.listing_spec.specs.Walk.{sources}
use Rattle.listing_spec.proofs.Group.{walk_refused}
use Rattle.listing_walk.specs.Told.{sources_of}
use Rattle.listing_walk.proofs.Stand.{table-stands, sgpd-stands}
use Rattle.listing_group.specs.Opened.{room_of, count_of}
use Rattle.base_fields.specs.Refusal.{told_value}
use Rattle.listing_group.proofs.Opening as opening
use Rattle.listing_group.proofs.open_group.Goals as goal
use Rattle.listing_group.proofs.open_group.Goals.{In_ok-count, In_ok-found, In_ok-table}

-- where the parts are found
module _ (c : In_ok-found) where
  found : given (sources_of c.in_ok-found.found) ≡ sources c.args.body.now c.args.grouping_type
  found = rw c.in_ok-found.was at c.find_sources.ensures

-- where the table's structure is read
module _ (c : In_ok-table) where
  abbrev walked : given (sources_of c.in_ok-found.found) ≡ sources c.args.body.now c.args.grouping_type
  walked = rw c.in_ok-found.was at c.find_sources.ensures

  abbrev ts : List ℕ
  ts = opening.ts c.args.body.now c.args.grouping_type c.args.lent c.in_ok-found.found walked

  held : Held c.in_ok-found.found.kind ts c.in_ok-table.table
  held = rw (c.bytes_at-table_s.ensures.bytes, c.in_ok-table.was) at c.read_table.ensures

-- where its rows are counted
module _ (c : In_ok-count) where
  counted :
      let a = c.args in
      let s = opening.ts a.body.now a.grouping_type a.lent c.in_ok-found.found (rw c.in_ok-found.was at c.find_sources.ensures) in
      given c.in_ok-count.count ≡ and_then (table_from s c.in_ok-table.table (room_of a.lent)) (λ x. given (count_of a.lent x.rows (ahead_in s c.in_ok-table.table (all_in c.in_ok-table.table))))
  counted = sym (ap told_value c.in_ok-count.was) ∙ (rw c.bytes_at-table_s.ensures.bytes at c.count_table.ensures)

pub returns-in_err-found : goal.returns-in_err-found
returns-in_err-found c =
    let a = c.args in
    let out = err_from_is_err_and c.from_residual.result c.from_residual.ensures.1 in
    rw (out.1, out.2) (walk_refused a.body.now a.grouping_type _ (sym (rw c.in_err-found.was at c.find_sources.ensures)))

pub bytes_at-table_s-requires : goal.bytes_at-table_s-requires
bytes_at-table_s-requires c =
    let a = c.args in
    (table-stands a.body.now a.grouping_type c.in_ok-found.found (found (goal.at.bytes_at-table_s-requires c).In_ok-found)).inside

pub returns-in_err-table : goal.returns-in_err-table
returns-in_err-table c =
    let a = c.args in
    let out = err_from_is_err_and c.from_residual-in_err-table.result c.from_residual-in_err-table.ensures.1 in
    rw (out.1, out.2)
    (opening.structure_refuses a.body.now a.grouping_type a.lent c.in_ok-found.found (found (goal.at.returns-in_err-table c).In_ok-found)
    (rw (c.bytes_at-table_s.ensures.bytes, c.in_err-table.was) at c.read_table.ensures))

pub count_table-requires : goal.count_table-requires
count_table-requires c =
    let h = held (goal.at.count_table-requires c).In_ok-table in
    rw c.bytes_at-table_s.ensures.bytes (h.whole, h.laid)

pub returns-in_err-count : goal.returns-in_err-count
returns-in_err-count c =
    let a = c.args in
    let here = goal.at.returns-in_err-count c in
    let out = err_from_is_err_and c.from_residual-in_err-count.result c.from_residual-in_err-count.ensures.1 in
    rw (out.1, out.2)
    (opening.rows_refuse a.body.now a.grouping_type a.lent c.in_ok-found.found (found here.In_ok-found) (held here.In_ok-table)
    (rw (c.bytes_at-table_s.ensures.bytes, c.in_err-count.was) at c.count_table.ensures))

pub bytes_at-requires : goal.bytes_at-requires
bytes_at-requires c =
    let a = c.args in
    (sgpd-stands a.body.now a.grouping_type c.in_ok-found.found (found (goal.at.bytes_at-requires c).In_ok-found)).inside

pub returns-in_err-head : goal.returns-in_err-head
returns-in_err-head c =
    let a = c.args in
    let here = goal.at.returns-in_err-head c in
    let out = err_from_is_err_and c.from_residual-in_err-head.result c.from_residual-in_err-head.ensures.1 in
    rw (out.1, out.2)
    (opening.entries_refuse a.body.now a.grouping_type a.lent c.in_ok-found.found (found here.In_ok-found) (held here.In_ok-table) (counted here.In_ok-count)
    (rw (c.bytes_at.ensures.bytes, c.in_err-head.was) at c.read_sgpd.ensures))

pub returns : goal.returns
returns c =
    let a = c.args in
    let here = goal.at.returns c in
    opening.group-opens a.body.now a.grouping_type a.lent c.in_ok-found.found (found here.In_ok-found) (held here.In_ok-table) (counted here.In_ok-count)
    (rw (c.bytes_at.ensures.bytes, c.in_ok-head.was) at c.read_sgpd.ensures)
