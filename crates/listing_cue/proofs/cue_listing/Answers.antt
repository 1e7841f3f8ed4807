-- The group's refusals; else the payloads where it was read stand in the body, and the listing is that of `list_samples`.
use mathlib.Core.Path.{ap, sym, ◌∙◌}
use lib.ListN.{length}
use Rattle.std.specs.Prelude.{Some}
use Rattle.std.proofs.lemmas.Result.{err_from_is_err_and}
use Rattle.table_rows.specs.Row.{records_in}
use Rattle.listing_spec.proofs.Refused.{refused-group}
use Rattle.listing_group.specs.Opened.{Opened}
use Rattle.listing_cue.proofs.Listed.{gives-refused, group-listed}
use Rattle.listing_cue.proofs.cue_listing.Goals as goal
use Rattle.listing_cue.proofs.cue_listing.Goals.{In_ok-group}

-- the group is opened
module _ (c : In_ok-group) where
  opened : Opened c.args.body.now c.args.grouping_type (Some (records_in c.args.rows.now)) c.in_ok-group.group
  opened = rw c.in_ok-group.was at c.open_group.ensures

pub returns-in_err-group : goal.returns-in_err-group
returns-in_err-group c =
    let a = c.args in
    let out = err_from_is_err_and c.from_residual.result c.from_residual.ensures.1 in
    rw (out.1, out.2) (gives-refused _ _ _ (refused-group a.body.now a.grouping_type _ _ (rw c.in_err-group.was at c.open_group.ensures)))

pub bytes_at-table_s-requires : goal.bytes_at-table_s-requires
bytes_at-table_s-requires c = (opened (goal.at.bytes_at-table_s-requires c).In_ok-group).table

pub bytes_at-s-requires : goal.bytes_at-s-requires
bytes_at-s-requires c = (opened (goal.at.bytes_at-s-requires c).In_ok-group).sgpd

pub list_samples-requires : goal.list_samples-requires
list_samples-requires c =
    let o = opened (goal.at.list_samples-requires c).In_ok-group in
    let made = o.holds.made in
    rw (c.bytes_at-table_s.ensures.bytes, c.bytes_at-s.ensures.bytes)
    record { whole_in = (o.holds.whole, o.holds.laid, o.holds.read); rows_value = (made.0, made.1, ap length made.2 ∙ sym o.count) }

pub returns : goal.returns
returns c =
    let o = opened (goal.at.returns c).In_ok-group in
    let made = o.holds.made in
    let listed =
    rw (c.bytes_at-table_s.ensures.bytes, c.bytes_at-s.ensures.bytes) at c.list_samples.ensures in
    rw (group-listed c.args.body.now c.args.grouping_type (records_in c.args.rows.now) _ o.told, o.holds.patterns, ← made.2) (listed.gives made.0 o.group.entries made.1 o.holds.entries)
