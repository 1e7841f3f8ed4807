-- Document 02's answer for a call's result.
use Rattle.std.specs.Prelude.{ℕ, Option, Result}
use Rattle.base_fields.specs.Answer.{Answer}
use Rattle.base_fields.specs.Refusal.{told_or_none}
use Rattle.base_fields.specs.declared.refusal.Refusal.{Refusal}
use Rattle.base_ids.specs.declared.SampleNumber.{SampleNumber}

abbrev pub told_start : Result (Option SampleNumber) Refusal → Answer ℕ
told_start = told_or_none (λ (k : SampleNumber). k.0)
