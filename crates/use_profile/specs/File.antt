-- The dome profile of a track of a film (requests A14 and A1 of document 02): where the search gives the body of the track's stbl, the verdict is that
-- of this body.
use Rattle.std.specs.Prelude.{ℕ, ◌≡◌, List}
use Rattle.base_fields.specs.Answer as answer
use Rattle.base_fields.specs.Answer.{Answer, given, refused}
use Rattle.base_fields.specs.Span.{Span, bytes_at}
use Rattle.atom_path.specs.Path.{stbl_at}
use Rattle.use_profile.specs.Profile.{Verdict, GivesVerdict}

-- by what the search answers, which is never none: the law `stbl-answered` of atom_path
abbrev pub GivesFound : List ℕ → Answer Span → Answer Verdict → Type 0
GivesFound s (given b) told = GivesVerdict (bytes_at s b) told
GivesFound s answer.none told = ⊥
GivesFound s (refused n) told = told ≡ refused n

-- s is the given bytes of the film, k the track
abbrev pub GivesFileVerdict : List ℕ → ℕ → Answer Verdict → Type 0
GivesFileVerdict s k told = GivesFound s (stbl_at s k) told
