-- The definition's answer for a call's result.
use Rattle.std.specs.Prelude.{ℕ, ◌+◌, ◌≤◌, Result}
use Rattle.base_fields.specs.Answer.{Answer, input_limit}
use Rattle.base_fields.specs.Refusal.{told}
use Rattle.base_fields.specs.Span.{span_of}
use Rattle.base_fields.specs.declared.refusal.Refusal.{Refusal}
use Rattle.use_sample_group.specs.SampleGroup.{Grouped, outside, missing, entry}
use Rattle.use_sample_group.specs.declared.SampleGroup.{SampleGroup}
use Rattle.use_sample_group.specs.declared.SampleGroup.TheVariants as group

abbrev pub grouped : SampleGroup → Grouped
grouped group.Outside = outside
grouped (group.Missing i) = missing i.0
grouped (group.Entry i part) = entry i.0 (span_of part)

abbrev pub told_group : Result SampleGroup Refusal → Answer Grouped
told_group = told grouped

-- the entry, behind p other bytes, stands within the longest input
abbrev pub StandsBehind : ℕ → SampleGroup → Type 0
StandsBehind p group.Outside = Unit
StandsBehind p (group.Missing i) = Unit
StandsBehind p (group.Entry i part) = p + part.place ≤ input_limit
