-- Document 01's answer for what the readers of an sgpd give.
use Rattle.std.specs.Prelude.{Option, Result}
use Rattle.base_fields.specs.Answer.{Answer}
use Rattle.base_fields.specs.Refusal.{told, told_or_none}
use Rattle.base_fields.specs.Span.{Span, span_of}
use Rattle.base_fields.specs.declared.Part.{Part}
use Rattle.base_fields.specs.declared.refusal.Refusal.{Refusal}
use Rattle.group_sgpd.specs.Sgpd.{Description}
use Rattle.group_sgpd.specs.declared.SampleGroupDescription.{SampleGroupDescription}

-- document 01's description of the fields that were read
abbrev pub description_read : SampleGroupDescription → Description
description_read d =
    record {
      version = d.version;
      type = d.grouping_type;
      length = d.default_length;
      index = d.default_sample_description_index;
      count = d.entry_count;
    }

abbrev pub told_sgpd : Result SampleGroupDescription Refusal → Answer Description
told_sgpd = told description_read

abbrev pub told_entry : Result (Option Part) Refusal → Answer Span
told_entry = told_or_none span_of
