-- Request A1 of document 02: where the search gives the body of a track's stbl, the cue listing of a film is that of this body.
use Rattle.std.specs.Prelude.{ℕ, List, length}
use Rattle.base_fields.specs.Answer.{Answer, and_then}
use Rattle.base_fields.specs.Span.{bytes_at, part_of}
use Rattle.table_rows.specs.Row.{records_in}
use Rattle.atom_path.specs.Path.{stbl_at}
use Rattle.listing_spec.specs.Cue.{Cue, cue_listing}

-- the search's refusals first; s is the given bytes of the film, k the track, t the grouping type
unfoldable pub file_listing : List ℕ → ℕ → ℕ → ℕ → ℕ → Answer Cue
file_listing s k t room size = and_then (stbl_at s k) (λ b. cue_listing (bytes_at s b) t room size)

-- a call that is lent a run of numbers for rows and an output
abbrev pub file_call : List ℕ → ℕ → ℕ → List ℕ → List ℕ → Answer Cue
file_call s k t rows out = file_listing s k t (records_in rows) (length out)

-- the bytes of the body of track k's stbl; none where there is none
abbrev pub stbl_of : List ℕ → ℕ → List ℕ
stbl_of s k = part_of s (stbl_at s k)
