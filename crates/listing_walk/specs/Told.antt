-- Document 01's answer for what src/ answers with.
use Rattle.std.specs.Prelude.{Result}
use Rattle.base_fields.specs.Answer.{Answer}
use Rattle.base_fields.specs.Refusal.{told}
use Rattle.base_fields.specs.declared.refusal.Refusal.{Refusal}
use Rattle.base_fields.specs.Span.{Span}
use Rattle.table_front.specs.declared.TableKind.{TableKind}
use Rattle.table_front.specs.declared.TableKind.TheVariants.{Sbgp, Csgp}
use Rattle.listing_spec.specs.Walk.{TakenTable, sbgp_at, csgp_at, Sources}
use Rattle.listing_walk.specs.declared.SourcesAt.{SourcesAt}

abbrev pub taken_as : TableKind → Span → TakenTable
taken_as Sbgp b = sbgp_at b
taken_as Csgp b = csgp_at b

abbrev pub sources_of : SourcesAt → Sources
sources_of f =
    record {
      table = taken_as f.kind (record { place = f.table_place; size = f.table_size });
      sgpd = record { place = f.sgpd_place; size = f.sgpd_size };
    }

abbrev pub told_sources : Result SourcesAt Refusal → Answer Sources
told_sources = told sources_of
