-- For a caller: the bodies that were found stand whole in the stbl's body, with 8 bytes at least, and are of the named type.
use mathlib.Core.Path.{◌≡◌, refl, sym}
use mathlib.Core.List.{List}
use Prim.Native.Nat.{ℕ}
use Rattle.base_fields.specs.Answer.{given}
use Rattle.base_fields.specs.Span.{Span}
use Rattle.table_front.specs.declared.TableKind.{TableKind}
use Rattle.table_front.specs.declared.TableKind.TheVariants.{Sbgp, Csgp}
use Rattle.listing_spec.specs.Walk.{sources}
use Rattle.listing_spec.proofs.Inside.{body_in, Stands, sources_stand}
use Rattle.listing_walk.specs.Told.{taken_as, sources_of}
use Rattle.listing_walk.specs.declared.SourcesAt.{SourcesAt}

body-taken : (kind : TableKind) (b : Span) → body_in (taken_as kind b) ≡ b
body-taken Sbgp b = refl
body-taken Csgp b = refl

module _ (s : List ℕ) (t : ℕ) (f : SourcesAt) (e : given (sources_of f) ≡ sources s t) where
  pub table-stands : Stands s t (record { place = f.table_place; size = f.table_size })
  table-stands = rw (body-taken f.kind) at (sources_stand s t (sym e)).table

  pub sgpd-stands : Stands s t (record { place = f.sgpd_place; size = f.sgpd_size })
  sgpd-stands = (sources_stand s t (sym e)).sgpd
