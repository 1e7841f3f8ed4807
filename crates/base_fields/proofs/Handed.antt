-- What an exit by `?` hands on: the refusal of the call before it.
use mathlib.Core.Path.{◌≡◌, ap, ◌∙◌}
use Rattle.std.specs.Prelude.{Result, Err}
use Rattle.std.specs.Result.{IsErr, IsErrAnd}
use Rattle.std.proofs.lemmas.Result.{err_from_is_err_and}
use Rattle.base_fields.specs.declared.refusal.Refusal.{Refusal}

pub handed : {A : Type 0} {e : Refusal} {r : Result A Refusal} → IsErr r × IsErrAnd r (λ n. n ≡ e) → r ≡ Err e
handed {r = r} h = let x = err_from_is_err_and r h.1 in x.1 ∙ ap Err x.2
