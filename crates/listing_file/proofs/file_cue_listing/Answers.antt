-- The search's refusals; else the body stands among the given bytes, and the listing is that of `cue_listing`.
use mathlib.Core.Path.{◌≡◌, sym}
use Rattle.std.proofs.lemmas.Result.{err_from_is_err_and}
use Rattle.base_fields.specs.Answer.{given}
use Rattle.atom_path.specs.Path.{stbl_at}
use Rattle.atom_path.proofs.Bodies.{stbl-within}
use Rattle.listing_cue.proofs.Listed.{gives-refused}
use Rattle.listing_file.proofs.From.{file_found, file_refused}
use Rattle.listing_file.proofs.file_cue_listing.Goals as goal
use Rattle.listing_file.proofs.file_cue_listing.Goals.{In_ok-body}

-- what the search answers
told : (c : In_ok-body) → let a = c.args in let b = c.in_ok-body.body in stbl_at a.s.now a.track ≡ given (record { place = b.place; size = b.size })
told c = sym (rw c.in_ok-body.was at c.find_stbl.ensures)

pub bytes_at-stbl-requires : goal.bytes_at-stbl-requires
bytes_at-stbl-requires c =
    let a = c.args in
    stbl-within a.s.now a.track (told (goal.at.bytes_at-stbl-requires c).In_ok-body)

pub returns : goal.returns
returns c =
    let a = c.args in
    rw (file_found a.s.now a.track a.grouping_type _ _ (told (goal.at.returns c).In_ok-body))
    (rw c.bytes_at-stbl.ensures.bytes at c.cue_listing.ensures)

pub returns-in_err-body : goal.returns-in_err-body
returns-in_err-body c =
    let a = c.args in
    let out = err_from_is_err_and c.from_residual.result c.from_residual.ensures.1 in
    rw (out.1, out.2) (gives-refused _ _ _ (file_refused a.s.now a.track a.grouping_type _ _ (sym (rw c.in_err-body.was at c.find_stbl.ensures))))
