-- The search's refusals; else the body stands among the given bytes, and the verdict is that of `profile`.
use mathlib.Core.Path.{◌≡◌, refl, sym, subst}
use Rattle.std.proofs.lemmas.Result.{err_from_is_err_and}
use Rattle.base_fields.specs.Answer.{Answer, given, refused}
use Rattle.base_fields.specs.Refusal.{number}
use Rattle.base_fields.specs.Span.{Span}
use Rattle.atom_path.proofs.Bodies.{stbl-within}
use Rattle.atom_path.specs.Path.{stbl_at}
use Rattle.use_profile.specs.File.{GivesFound}
use Rattle.use_profile.specs.Told.{told_verdict}
use Rattle.use_profile.proofs.file_profile.Goals as goal
use Rattle.use_profile.proofs.file_profile.Goals.{In_ok-body}

-- what the search answers
told : (c : In_ok-body) → let a = c.args in let b = c.in_ok-body.body in stbl_at a.s.now a.track ≡ given (record { place = b.place; size = b.size })
told c = sym (rw c.in_ok-body.was at c.find_stbl.ensures)

pub returns-in_err-body : goal.returns-in_err-body
returns-in_err-body c =
    let a = c.args in
    let out = err_from_is_err_and c.from_residual.result c.from_residual.ensures.1 in
    let missed : stbl_at a.s.now a.track ≡ refused (number c.in_err-body.field-0.0) = sym (rw c.in_err-body.was at c.find_stbl.ensures) in
    rw (out.1, out.2, missed) refl

pub bytes_at-requires : goal.bytes_at-requires
bytes_at-requires c =
    let a = c.args in
    stbl-within a.s.now a.track (told (goal.at.bytes_at-requires c).In_ok-body)

pub returns : goal.returns
returns c =
    let s = c.args.s.now in
    let verdict = rw c.bytes_at.ensures.bytes at c.profile.ensures in
    subst (λ (x : Answer Span). GivesFound s x (told_verdict c.profile.result)) (sym (told (goal.at.returns c).In_ok-body)) verdict
