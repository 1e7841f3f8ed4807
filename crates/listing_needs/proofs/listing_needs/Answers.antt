-- The group's refusals; else the payloads where it was read stand in the body, and the needs are those of `needs_of`.
use Rattle.std.specs.Prelude.{Some}
use Rattle.std.proofs.lemmas.Result.{err_from_is_err_and}
use Rattle.table_needed.specs.Needed.{unlimited}
use Rattle.listing_group.specs.Opened.{Opened}
use Rattle.listing_needs.proofs.From.{group-refused, group-needed}
use Rattle.listing_needs.proofs.listing_needs.Goals as goal
use Rattle.listing_needs.proofs.listing_needs.Goals.{In_ok-group}

-- the group is opened
module _ (c : In_ok-group) where
  opened : Opened c.args.body.now c.args.grouping_type (Some unlimited) c.in_ok-group.group
  opened = rw c.in_ok-group.was at c.open_group.ensures

pub returns-in_err-group : goal.returns-in_err-group
returns-in_err-group c =
    let a = c.args in
    let out = err_from_is_err_and c.from_residual.result c.from_residual.ensures.1 in
    rw (out.1, out.2) (group-refused a.body.now a.grouping_type (rw c.in_err-group.was at c.open_group.ensures))

pub bytes_at-table_s-requires : goal.bytes_at-table_s-requires
bytes_at-table_s-requires c = (opened (goal.at.bytes_at-table_s-requires c).In_ok-group).table

pub bytes_at-s-requires : goal.bytes_at-s-requires
bytes_at-s-requires c = (opened (goal.at.bytes_at-s-requires c).In_ok-group).sgpd

pub needs_of-requires : goal.needs_of-requires
needs_of-requires c =
    let o = opened (goal.at.needs_of-requires c).In_ok-group in
    rw (c.bytes_at-table_s.ensures.bytes, c.bytes_at-s.ensures.bytes) (o.holds.whole, o.holds.read)

pub returns : goal.returns
returns c =
    let o = opened (goal.at.returns c).In_ok-group in
    let told = rw (c.bytes_at-table_s.ensures.bytes, c.bytes_at-s.ensures.bytes, o.count) at c.needs_of.ensures in
    rw (group-needed c.args.body.now c.args.grouping_type o.told, o.holds.patterns) (told.gives o.group.entries o.holds.entries)
