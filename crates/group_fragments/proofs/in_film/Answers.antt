-- The film's answer first, then the fragment's refusals (`film-first`).
use Rattle.std.specs.Prelude.{Option, Some, None, Ok}
use Rattle.base_fields.specs.Answer.{refused}
use Rattle.base_fields.specs.declared.Part as parts
use Rattle.group_fragments.proofs.Two.{film_first, film-first}
use Rattle.group_sgpd.specs.Told.{told_entry}
use Rattle.group_sgpd.proofs.Heads.{handed}
use Prim.Native.Nat.{ℕ}
use mathlib.Core.Path.{◌≡◌, refl, ◌∙◌}
use Rattle.group_fragments.proofs.in_film.Goals as goal

-- the fragment's refusal stays, whatever the film's answer is
kept : (o : Option parts.Part) (n : ℕ) → refused n ≡ film_first (told_entry (Ok o)) (refused n)
kept (Some p) n = refl
kept None n = refl

pub returns-in_err-parse_sgpd : goal.returns-in_err-parse_sgpd
returns-in_err-parse_sgpd c =
    let a = c.args in
    rw (handed c.from_residual-in_err-parse_sgpd.ensures) (kept c.in_ok-found.found _ ∙ film-first a.film.now a.fragment.now a.index.0 c.in_ok-found.ensures c.in_err-parse_sgpd.ensures)
