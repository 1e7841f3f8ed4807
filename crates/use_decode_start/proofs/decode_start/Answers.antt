-- The group's refusals; else the payloads where it was read stand in the body, and the answer is that of `start_in`.
use mathlib.Core.Path.{ap, ◌∙◌}
use Rattle.std.specs.Prelude.{None}
use Rattle.std.proofs.lemmas.Result.{err_from_is_err_and}
use Rattle.table_rows.specs.Pattern.{covered_by}
use Rattle.listing_group.specs.Opened.{Opened}
use Rattle.use_decode_start.specs.Told.{told_start}
use Rattle.use_decode_start.proofs.From.{group-refused, group-searched, gives-start}
use Rattle.use_decode_start.proofs.decode_start.Goals as goal
use Rattle.use_decode_start.proofs.decode_start.Goals.{In_ok-group}

-- the group is opened
module _ (c : In_ok-group) where
  opened : Opened c.args.body.now c.args.grouping_type None c.in_ok-group.group
  opened = rw c.in_ok-group.was at c.open_group.ensures

pub returns-in_err-group : goal.returns-in_err-group
returns-in_err-group c =
    let a = c.args in
    let out = err_from_is_err_and c.from_residual.result c.from_residual.ensures.1 in
    rw (out.1, out.2) (group-refused a.body.now a.grouping_type _ (rw c.in_err-group.was at c.open_group.ensures))

pub bytes_at-table_s-requires : goal.bytes_at-table_s-requires
bytes_at-table_s-requires c = (opened (goal.at.bytes_at-table_s-requires c).In_ok-group).table

pub bytes_at-s-requires : goal.bytes_at-s-requires
bytes_at-s-requires c = (opened (goal.at.bytes_at-s-requires c).In_ok-group).sgpd

pub start_in-requires : goal.start_in-requires
start_in-requires c =
    let o = opened (goal.at.start_in-requires c).In_ok-group in
    rw (c.bytes_at-table_s.ensures.bytes, c.bytes_at-s.ensures.bytes) (o.holds.whole, o.count ∙ ap covered_by o.holds.patterns, o.holds.read)

pub returns : goal.returns
returns c =
    let o = opened (goal.at.returns c).In_ok-group in
    let told = rw (c.bytes_at-table_s.ensures.bytes, c.bytes_at-s.ensures.bytes) at c.start_in.ensures in
    gives-start c.args.body.now c.args.grouping_type c.args.frame.0 (group-searched c.args.body.now c.args.grouping_type c.args.frame.0 o.told) (told_start c.start_in.result)
    (told.gives o.group o.holds.patterns o.holds.entries)
