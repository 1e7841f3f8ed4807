-- What the results of the readers tell.
use Rattle.std.specs.Prelude.{ℕ, Result, Option}
use Rattle.base_fields.specs.Answer.{Answer}
use Rattle.base_fields.specs.Refusal.{told_or_none}
use Rattle.base_fields.specs.declared.refusal.Refusal.{Refusal}
use Rattle.base_ids.specs.declared.SampleNumber.{SampleNumber}
use Rattle.table_sync.specs.Sync.{Dependency}
use Rattle.table_sync.specs.declared.SampleDependency.{SampleDependency}

abbrev pub told_sample : Result (Option SampleNumber) Refusal → Answer ℕ
told_sample = told_or_none (λ k. k.0)

abbrev pub fields_of : SampleDependency → Dependency
fields_of d =
    record {
      is_leading_by = d.is_leading;
      depends_on = d.sample_depends_on;
      is_depended_on = d.sample_is_depended_on;
      has_redundancy = d.sample_has_redundancy;
    }

abbrev pub told_dependency : Result (Option SampleDependency) Refusal → Answer Dependency
told_dependency = told_or_none fields_of
