-- By the body, where it has the named type: it is taken, passed over or refused.
use mathlib.Core.Path.{refl}
use Rattle.base_fields.proofs.Handed.{handed}
use Rattle.listing_walk.proofs.Steps.{table-named}
use Rattle.listing_walk.proofs.visit.visit_table.Goals as goal

pub returns-in_err-body : goal.returns-in_err-body
returns-in_err-body c = rw (handed c.from_residual.ensures, table-named, ← c.in_err-body.ensures) refl

pub returns-in-Some : goal.returns-in-Some
returns-in-Some c = rw (table-named, ← rw c.in-Some.is at c.in_ok-body.ensures) c.take_table.ensures

pub returns-in-None : goal.returns-in-None
returns-in-None c = rw (table-named, ← rw c.in-None.is at c.in_ok-body.ensures) refl
