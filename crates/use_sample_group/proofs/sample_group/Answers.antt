-- The group's refusals; 62; else the index by the table's payload, and the entry by the sgpd's, whose place in the body is added.
use mathlib.Core.Path.{◌≡◌, ap, sym, ◌∙◌}
use Prim.Native.Nat.{◌<◌}
use native.Mathlib.Omega.{arith}
use Rattle.std.specs.Prelude.{None}
use Rattle.std.proofs.lemmas.Result.{err_from_is_err_and}
use Rattle.base_fields.specs.Answer.{given, and_then}
use Rattle.base_fields.specs.Span.{bytes_at}
use Rattle.group_sgpd.specs.Sgpd.{sgpd}
use Rattle.table_rows.specs.Pattern.{covered_by, index_of}
use Rattle.listing_group.specs.Opened.{sgpd_span, Opened}
use Rattle.use_sample_group.specs.SampleGroup.{group_from, group_of, sample_group}
use Rattle.use_sample_group.specs.Told.{told_group}
use Rattle.use_sample_group.proofs.From.{group-refused, not_covered, group-led, told_moved, told-stands}
use Rattle.use_sample_group.proofs.sample_group.Goals as goal
use Rattle.use_sample_group.proofs.sample_group.Goals.{After-entry_of, In_ok-group}

-- the group is opened
module _ (c : In_ok-group) where
  opened : Opened c.args.body.now c.args.grouping_type None c.in_ok-group.group
  opened = rw c.in_ok-group.was at c.open_group.ensures

-- the entry is looked for
module _ (c : After-entry_of) where
  opened-there : Opened c.args.body.now c.args.grouping_type None c.in_ok-group.group
  opened-there = rw c.in_ok-group.was at c.open_group.ensures

  index : c.index_of-index.result.0 ≡ index_of opened-there.group.patterns c.args.sample.0
  index = (rw c.bytes_at.ensures.bytes at c.index_of-index.ensures) ∙ ap (λ ps. index_of ps c.args.sample.0) (sym opened-there.holds.patterns)

  told : told_group c.entry_of.result ≡ and_then (sgpd (bytes_at c.args.body.now (sgpd_span c.in_ok-group.group))) (λ entries. given (group_of entries (index_of opened-there.group.patterns c.args.sample.0)))
  told = rw (c.bytes_at-2.ensures.bytes, index) at c.entry_of.ensures

  covered : c.args.sample.0 < covered_by opened-there.group.patterns
  covered = omega (arith, c.if-group-wanted.false, opened-there.count)

pub returns-in_err-group : goal.returns-in_err-group
returns-in_err-group c =
    let a = c.args in
    let out = err_from_is_err_and c.from_residual.result c.from_residual.ensures.1 in
    rw (out.1, out.2) (group-refused a.body.now a.grouping_type a.sample.0 (rw c.in_err-group.was at c.open_group.ensures))

pub returns-then-group-wanted : goal.returns-then-group-wanted
returns-then-group-wanted c =
    not_covered c.args.body.now c.args.grouping_type c.args.sample.0 (opened (goal.at.returns-then-group-wanted c).In_ok-group).told (omega (arith, c.if-group-wanted.true, (opened (goal.at.returns-then-group-wanted c).In_ok-group).count))

pub bytes_at-requires : goal.bytes_at-requires
bytes_at-requires c = (opened (goal.at.bytes_at-requires c).In_ok-group).table

pub index_of-index-requires : goal.index_of-index-requires
index_of-index-requires c = rw c.bytes_at.ensures.bytes (opened (goal.at.index_of-index-requires c).In_ok-group).holds.whole

pub bytes_at-requires-2 : goal.bytes_at-requires-2
bytes_at-requires-2 c = (opened (goal.at.bytes_at-requires-2 c).In_ok-group).sgpd

-- what is told of the entry, and what follows of the sample
module _ (c : After-entry_of) where
  sampled : and_then (told_group c.entry_of.result) (λ g. given (group_from c.in_ok-group.group.sgpd_place g)) ≡ sample_group c.args.body.now c.args.grouping_type c.args.sample.0
  sampled =
      let o = opened-there c in
      told_moved c.args.body.now c.args.grouping_type o.walked.1 o.holds.read.read (index_of o.group.patterns c.args.sample.0) (told c)
      ∙ sym (group-led c.args.body.now c.args.grouping_type c.args.sample.0 o.told (covered c))

pub returns-in_err-found : goal.returns-in_err-found
returns-in_err-found c =
    let out = err_from_is_err_and c.from_residual-in_err-found.result c.from_residual-in_err-found.ensures.1 in
    rw (out.1, out.2) (rw c.in_err-found.was at (sampled (goal.at.returns-in_err-found c).After-entry_of))

pub group_from-requires : goal.group_from-requires
group_from-requires c =
    let there = (goal.at.group_from-requires c).After-entry_of in
    let o = opened-there there in
    told-stands c.args.body.now c.args.grouping_type o.walked.1 o.holds.read.read o.sgpd c.in_ok-found.found (index_of o.group.patterns c.args.sample.0) (sym (ap told_group c.in_ok-found.was) ∙ told there)

pub returns : goal.returns
returns c =
    ap given c.group_from.ensures ∙ (rw c.in_ok-found.was at (sampled (goal.at.returns c).After-entry_of))
