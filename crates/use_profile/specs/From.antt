-- The profile of a group that was opened: what the listing does before its bytes, and rules 2 to 5.
use Rattle.std.specs.Prelude.{ℕ, ◌≡◌, List}
use Rattle.base_fields.specs.Answer as answer
use Rattle.base_fields.specs.Answer.{Answer, given, refused, and_then}
use Rattle.table_rows.specs.Pattern.{samples_of, covered_by}
use Rattle.table_runs.specs.Ahead.{all_in, ahead_in}
use Rattle.table_runs.specs.declared.SampleTable.{SampleTable}
use Rattle.table_needed.specs.Needed.{unlimited}
use Rattle.table_views.specs.Used.{first_refusal}
use Rattle.listing_theorem.specs.Samples.{meaning_of}
use Rattle.listing_spec.specs.Table.{entries_of}
use Rattle.listing_spec.specs.Group.{Group, group_taken}
use Rattle.use_profile.specs.Profile.{t, Verdict, breaks}
use Rattle.use_profile.specs.Survey.{Survey, kind_by, survey, verdict_by}

-- how many samples are covered, and what was seen of them
pub record Surveyed : Type 0 where
  pub covered : ℕ
  pub seen : Survey

abbrev pub survey_of_group : Group → Surveyed
survey_of_group group = record { covered = covered_by group.patterns; seen = survey (kind_by group.entries) (samples_of group.patterns) }

-- the decoders' refusals first
unfoldable pub surveyed_from : Group → Answer Surveyed
surveyed_from group = and_then (first_refusal (meaning_of t group.entries) (samples_of group.patterns)) (λ u. given (survey_of_group group))

-- before them the group's, where records never run out
unfoldable pub surveyed_in : List ℕ → Answer Surveyed
surveyed_in s = and_then (group_taken s t unlimited) surveyed_from

-- any refusal breaks rule 1
abbrev pub verdict_of : Answer Surveyed → Verdict
verdict_of (given x) = verdict_by x.covered x.seen
verdict_of answer.none = breaks 1
verdict_of (refused n) = breaks 1

-- of a group with the patterns of this table's payload ts and the entries of this sgpd's payload s
pub record JudgesIn (ts : List ℕ) (table : SampleTable) (s : List ℕ) (told : Answer Verdict) : Type 0 where
  pub gives : (g : Group) → g.patterns ≡ ahead_in ts table (all_in table) → entries_of s ≡ given g.entries → told ≡ given (verdict_of (surveyed_from g))
