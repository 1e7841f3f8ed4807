-- The search's refusals; else the body stands among the given bytes, and the needs are those of `listing_needs`.
use mathlib.Core.Path.{◌≡◌, sym, ◌∙◌}
use Rattle.std.proofs.lemmas.Result.{err_from_is_err_and}
use Rattle.base_fields.specs.Answer.{given}
use Rattle.atom_path.specs.Path.{stbl_at}
use Rattle.atom_path.proofs.Bodies.{stbl-within}
use Rattle.listing_needs.proofs.From.{file_found, file_refused}
use Rattle.listing_needs.proofs.file_listing_needs.Goals as goal
use Rattle.listing_needs.proofs.file_listing_needs.Goals.{In_ok-body}

-- what the search answers
told : (c : In_ok-body) → let a = c.args in let b = c.in_ok-body.body in stbl_at a.s.now a.track ≡ given (record { place = b.place; size = b.size })
told c = sym (rw c.in_ok-body.was at c.find_stbl.ensures)

pub bytes_at-stbl-requires : goal.bytes_at-stbl-requires
bytes_at-stbl-requires c =
    let a = c.args in
    stbl-within a.s.now a.track (told (goal.at.bytes_at-stbl-requires c).In_ok-body)

pub returns : goal.returns
returns c =
    let a = c.args in
    (rw c.bytes_at-stbl.ensures.bytes at c.listing_needs.ensures)
    ∙ sym (file_found a.s.now a.track a.grouping_type (told (goal.at.returns c).In_ok-body))

pub returns-in_err-body : goal.returns-in_err-body
returns-in_err-body c =
    let a = c.args in
    let out = err_from_is_err_and c.from_residual.result c.from_residual.ensures.1 in
    rw (out.1, out.2) (file_refused a.s.now a.track a.grouping_type (sym (rw c.in_err-body.was at c.find_stbl.ensures)))
