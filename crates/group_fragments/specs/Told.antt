-- Document 01's answer for the part that an index names.
use Rattle.std.specs.Prelude.{true, false, Option, Result}
use Rattle.base_fields.specs.Answer.{Answer}
use Rattle.base_fields.specs.Refusal.{told_or_none}
use Rattle.base_fields.specs.Span.{span_of}
use Rattle.base_fields.specs.declared.refusal.Refusal.{Refusal}
use Rattle.group_fragments.specs.Fragments.{Part}
use Rattle.group_fragments.specs.declared.FoundPart.{FoundPart}
use Rattle.group_fragments.specs.declared.FoundPart.TheVariants.{Film, Fragment}

abbrev pub part_found : FoundPart → Part
part_found (Film p) = record { local = false; span = span_of p }
part_found (Fragment p) = record { local = true; span = span_of p }

abbrev pub told_part : Result (Option FoundPart) Refusal → Answer Part
told_part = told_or_none part_found
