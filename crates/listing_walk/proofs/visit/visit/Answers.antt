-- By the child's type.
use mathlib.Core.Path.{◌∙◌}
use Rattle.listing_walk.proofs.Steps.{visit-sbgp, visit-csgp, visit-sgpd, visit-other}
use Rattle.listing_walk.proofs.visit.visit.Goals as goal

pub returns-in-1935828848 : goal.returns-in-1935828848
returns-in-1935828848 c = c.visit_table.ensures ∙ visit-sbgp _ _ _ _ c.in-1935828848.is

pub returns-in-1668507504 : goal.returns-in-1668507504
returns-in-1668507504 c = c.visit_table-in-1668507504.ensures ∙ visit-csgp _ _ _ _ c.in-1668507504.is

pub returns-in-1936158820 : goal.returns-in-1936158820
returns-in-1936158820 c = c.visit_sgpd.ensures ∙ visit-sgpd _ _ _ _ c.in-1936158820.is

pub returns-in_default : goal.returns-in_default
returns-in_default c =
    let rest = c.in_default.in_default-own.rest in
    visit-other _ _ _ _ rest.0.0.1 rest.0.1 rest.1
