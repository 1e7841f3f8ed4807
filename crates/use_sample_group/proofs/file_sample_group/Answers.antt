-- The search's refusals; else the body stands among the given bytes, and its place is added to that of the entry.
use mathlib.Core.Path.{◌≡◌, ap, sym, ◌∙◌}
use Rattle.std.proofs.lemmas.Result.{err_from_is_err_and}
use Rattle.base_fields.specs.Answer.{given, and_then}
use Rattle.base_fields.specs.Span.{bytes_at}
use Rattle.atom_path.specs.Path.{stbl_at}
use Rattle.atom_path.proofs.Bodies.{stbl-within}
use Rattle.use_sample_group.specs.SampleGroup.{group_from, sample_group, file_sample_group}
use Rattle.use_sample_group.specs.Told.{told_group}
use Rattle.use_sample_group.proofs.From.{file_refused, file_moved, file_stands}
use Rattle.use_sample_group.proofs.file_sample_group.Goals as goal
use Rattle.use_sample_group.proofs.file_sample_group.Goals.{After-sample_group, In_ok-body}

-- what the search answers
told : (c : In_ok-body) → let a = c.args in let b = c.in_ok-body.body in stbl_at a.s.now a.track ≡ given (record { place = b.place; size = b.size })
told c = sym (rw c.in_ok-body.was at c.find_stbl.ensures)

-- what is told of the sample in the body
module _ (c : After-sample_group) where
  inner : told_group c.sample_group.result ≡ sample_group (bytes_at c.args.s.now (record { place = c.in_ok-body.body.place; size = c.in_ok-body.body.size })) c.args.grouping_type c.args.sample.0
  inner = rw c.bytes_at-stbl.ensures.bytes at c.sample_group.ensures

  found : stbl_at c.args.s.now c.args.track ≡ given (record { place = c.in_ok-body.body.place; size = c.in_ok-body.body.size })
  found = sym (rw c.in_ok-body.was at c.find_stbl.ensures)

  filmed : and_then (told_group c.sample_group.result) (λ g. given (group_from c.in_ok-body.body.place g)) ≡ file_sample_group c.args.s.now c.args.track c.args.grouping_type c.args.sample.0
  filmed = file_moved c.args.s.now c.args.track c.args.grouping_type c.args.sample.0 found inner

pub returns-in_err-body : goal.returns-in_err-body
returns-in_err-body c =
    let a = c.args in
    let out = err_from_is_err_and c.from_residual.result c.from_residual.ensures.1 in
    rw (out.1, out.2) (file_refused a.s.now a.track a.grouping_type a.sample.0 (sym (rw c.in_err-body.was at c.find_stbl.ensures)))

pub bytes_at-stbl-requires : goal.bytes_at-stbl-requires
bytes_at-stbl-requires c =
    let a = c.args in
    stbl-within a.s.now a.track (told (goal.at.bytes_at-stbl-requires c).In_ok-body)

pub returns-in_err-group : goal.returns-in_err-group
returns-in_err-group c =
    let out = err_from_is_err_and c.from_residual-in_err-group.result c.from_residual-in_err-group.ensures.1 in
    rw (out.1, out.2) (rw c.in_err-group.was at (filmed (goal.at.returns-in_err-group c).After-sample_group))

pub group_from-requires : goal.group_from-requires
group_from-requires c =
    let a = c.args in
    let there = (goal.at.group_from-requires c).After-sample_group in
    file_stands a.s.now a.track a.grouping_type a.sample.0 (found there) c.in_ok-group.group (sym (ap told_group c.in_ok-group.was) ∙ inner there)

pub returns : goal.returns
returns c =
    ap given c.group_from.ensures ∙ (rw c.in_ok-group.was at (filmed (goal.at.returns c).After-sample_group))
