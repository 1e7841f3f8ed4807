-- An accepted listing lies within the output, so its front can be printed.
use native.Mathlib.Omega.{arith}
use lib.ListN.{length-take}
use Rattle.listing_cue.proofs.Fits.{listing-fits}
use Rattle.cue.proofs.print_cue.Goals as goal

pub slice_bounds-print_listing-end : goal.slice_bounds-print_listing-end
slice_bounds-print_listing-end g c =
    let a = c.args in
    let fits = listing-fits a.body.now a.grouping_type a.rows.now a.listing.now _ c.cue_listing.ensures c.in-Ok.is in
    omega (arith, fits, c.cue_listing.auto.out)

pub slice_bounds-print_listing-end-in-Ok : goal.slice_bounds-print_listing-end-in-Ok
slice_bounds-print_listing-end-in-Ok g c =
    let a = c.args in
    let fits = listing-fits a.body.now a.grouping_type a.rows.now a.listing.now _ c.cue_listing.ensures c.in-Ok.is in
    simp length-take (omega (arith, fits, c.cue_listing.auto.out))
