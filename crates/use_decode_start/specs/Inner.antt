-- What the inner steps answer.
use Rattle.std.specs.Prelude.{ℕ, zero, suc, min, List, ℤ, pos, negsuc, length, Result}
use Rattle.std.proofs.Math.Option.{Option, none, some, bind}
use Rattle.base_fields.specs.Answer.{Answer, given, and_then}
use Rattle.base_fields.specs.Refusal.{told}
use Rattle.base_fields.specs.declared.refusal.Refusal.{Refusal}
use Rattle.table_rows.specs.Pattern.{Pattern}
use Rattle.table_patterns.specs.declared.PatternAt.{PatternAt}
use Rattle.table_views.specs.Used.{used, used_in, first_refusal}
use Rattle.table_views.specs.Search.{begin, larger, best_from, best_in}
use Rattle.listing_meanings.specs.Meant.{meaning_in}
use Rattle.use_decode_start.specs.Start.{distance_told}
use Rattle.use_decode_start.specs.declared.Distance.{Distance}
use Rattle.use_decode_start.specs.declared.Distance.TheVariants as distance

abbrev pub told_distance : Distance → Option ℤ
told_distance distance.Nothing = none
told_distance (distance.Ahead n) = some (pos n)
told_distance (distance.Behind n) = some (negsuc n)

abbrev pub told_decoded : Result Distance Refusal → Answer (Option ℤ)
told_decoded = told told_distance

-- a sample or none, by how many samples there are up to it
abbrev pub told_latest : ℕ → Option ℕ
told_latest zero = none
told_latest (suc k) = some k

abbrev pub told_search : Result ℕ Refusal → Answer (Option ℕ)
told_search = told told_latest

-- frames are below this
abbrev pub frame_limit : ℕ
frame_limit = 4294967296

-- where a member with distance -(n + 1) begins
abbrev pub begun_before : Option ℕ → ℕ → Option ℕ
begun_before o n = bind o (begin (negsuc n))

-- a pattern's first n samples, at the same place
abbrev pub cut_place : ℕ → PatternAt → PatternAt
cut_place n p = record { length = p.length; count = min n p.count; width = p.width; indices = p.indices; marks = p.marks }

-- the distance of an index, from the sgpd's payload s
abbrev pub distance_in : ℕ → List ℕ → ℕ → Option ℤ
distance_in t s i = distance_told (meaning_in t s i)

-- one pattern that starts at sample `start`: the decoders' refusals, then the greatest begin of its members and `before`
abbrev pub searched_pattern : ℕ → List ℕ → ℕ → ℕ → Option ℕ → Pattern → Answer (Option ℕ)
searched_pattern t s wanted start before p =
    and_then (first_refusal (meaning_in t s) (used p)) (λ u.
    given (larger before (best_from (distance_in t s) wanted start p.count (length p.indices) 0 p.indices)))

-- these patterns from sample `start` on
abbrev pub searched_on : ℕ → List ℕ → ℕ → ℕ → Option ℕ → List Pattern → Answer (Option ℕ)
searched_on t s wanted start before ps =
    and_then (first_refusal (meaning_in t s) (used_in ps)) (λ u. given (larger before (best_in (distance_in t s) wanted start ps)))

-- all of a table's
abbrev pub searched_in : ℕ → List ℕ → ℕ → List Pattern → Answer (Option ℕ)
searched_in t s wanted ps = searched_on t s wanted 0 none ps
