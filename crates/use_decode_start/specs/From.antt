-- The search in a group that is opened.
use Rattle.std.specs.Prelude.{ℕ, suc, ◌≡◌, List, leb, take}
use Rattle.std.proofs.Math.Option.{Option, none, some}
use Rattle.base_fields.specs.Answer as answers
use Rattle.base_fields.specs.Answer.{Answer, given, refused, refuse_if, and_then}
use Rattle.table_rows.specs.Pattern.{samples_of, covered_by}
use Rattle.table_runs.specs.Ahead.{all_in, ahead_in}
use Rattle.table_runs.specs.declared.SampleTable.{SampleTable}
use Rattle.table_views.specs.Greatest.{Greatest}
use Rattle.table_views.specs.Used.{first_refusal}
use Rattle.listing_theorem.specs.Samples.{meaning_of}
use Rattle.listing_spec.specs.Table.{entries_of}
use Rattle.listing_spec.specs.Group.{Group}
use Rattle.use_decode_start.specs.Start.{BeginsIn}

-- 62, then the decoders' refusals
unfoldable pub searched_by : ℕ → ℕ → Group → Answer Group
searched_by t wanted group =
    refuse_if (leb (covered_by group.patterns) wanted) 62
    (and_then (first_refusal (meaning_of t group.entries) (take (suc wanted) (samples_of group.patterns))) (λ u. given group))

-- an accepted answer, where the search is told so
pub record StartsBy (answer : Answer Group) (t wanted : ℕ) (found : Option ℕ) : Type 0 where
  pub group : Group
  pub told : answer ≡ given group
  pub greatest : Greatest (BeginsIn t wanted group) found

abbrev pub GivesBy : Answer Group → ℕ → ℕ → Answer ℕ → Type 0
GivesBy told t wanted (given b) = StartsBy told t wanted (some b)
GivesBy told t wanted answers.none = StartsBy told t wanted none
GivesBy told t wanted (refused n) = told ≡ refused n

-- of a group with the patterns of this table's payload ts and the entries of this sgpd's payload s
pub record GivesIn (ts : List ℕ) (table : SampleTable) (s : List ℕ) (t wanted : ℕ) (a : Answer ℕ) : Type 0 where
  pub gives : (g : Group) → g.patterns ≡ ahead_in ts table (all_in table) → entries_of s ≡ given g.entries → GivesBy (searched_by t wanted g) t wanted a
