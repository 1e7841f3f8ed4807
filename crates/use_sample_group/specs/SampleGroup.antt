-- The group of a sample (beyond documents 01 and 02): s is the body of an stbl, t a grouping type, read as for the cue listing. No rows are lent, and no
-- decoder is asked.
use Rattle.std.specs.Prelude.{ℕ, zero, suc, ◌+◌, List, map, ltb, leb, length, get_or}
use Rattle.base_fields.specs.Answer.{Answer, given, choose, refuse_if, and_then}
use Rattle.base_fields.specs.Span.{Span, bytes_at}
use Rattle.atom_path.specs.Path.{stbl_at}
use Rattle.table_rows.specs.Pattern.{covered_by, index_of}
use Rattle.table_needed.specs.Needed.{unlimited}
use Rattle.group_sgpd.specs.Sgpd.{sgpd}
use Rattle.listing_spec.specs.Walk.{sources}
use Rattle.listing_spec.specs.Group.{group_taken}
use Rattle.listing_spec.specs.Meanings.{list_of}

-- where a sample's index leads: outside every group (index 0), past the entries, or to an entry, with the place and the length of its bytes
pub data Grouped : Type 0 where
  outside : Grouped
  missing : ℕ → Grouped
  entry : ℕ → Span → Grouped

-- the kind of the sample, as the cue listing tells it
abbrev pub group_kind : Grouped → ℕ
group_kind outside = 0
group_kind (missing i) = 1
group_kind (entry i e) = 2

abbrev pub group_index_of : Grouped → ℕ
group_index_of outside = 0
group_index_of (missing i) = i
group_index_of (entry i e) = i

-- a part of what stands at place p of the whole, as a part of the whole
abbrev pub part_from : ℕ → Span → Span
part_from p e = record { place = p + e.place; size = e.size }

abbrev pub group_from : ℕ → Grouped → Grouped
group_from p outside = outside
group_from p (missing i) = missing i
group_from p (entry i e) = entry i (part_from p e)

-- where the entries of the taken sgpd stand in the body
unfoldable pub entry_places : List ℕ → ℕ → List Span
entry_places s t =
    list_of
    (and_then (sources s t) (λ taken. and_then (sgpd (bytes_at s taken.sgpd)) (λ entries. given (map (part_from taken.sgpd.place) entries))))

-- by these places; indices count the entries from 1
unfoldable pub group_of : List Span → ℕ → Grouped
group_of places zero = outside
group_of places (suc i) = choose (ltb i (length places)) (entry (suc i) (get_or places i (record { place = 0; size = 0 }))) (missing (suc i))

-- in order: the group's numbers, where records never run out, so that 29 cannot arise; 62 where sample k is not covered
unfoldable pub sample_group : List ℕ → ℕ → ℕ → Answer Grouped
sample_group s t k =
    and_then (group_taken s t unlimited) (λ group.
    refuse_if (leb (covered_by group.patterns) k) 62 (given (group_of (entry_places s t) (index_of group.patterns k))))

-- of track n of a film: the search's refusals first (request A1 of document 02). The place of an entry is counted in all bytes s of the film
unfoldable pub file_sample_group : List ℕ → ℕ → ℕ → ℕ → Answer Grouped
file_sample_group s n t k = and_then (stbl_at s n) (λ b. and_then (sample_group (bytes_at s b) t k) (λ g. given (group_from b.place g)))
