-- An accepted listing lies within the output, so its front can be printed.
use native.Mathlib.Omega.{arith}
use lib.ListN.{length-take}
use Rattle.listing_file.proofs.Fits.{file_fits}
use Rattle.cue_film.proofs.print_cue.Goals as goal

pub slice_bounds-told-end : goal.slice_bounds-told-end
slice_bounds-told-end g c =
    let a = c.args in
    let fits = file_fits a.film.now a.asked.track a.asked.grouping_type a.rows.now a.listing.now _ c.file_cue_listing.ensures c.in-Ok.is in
    omega (arith, fits, c.file_cue_listing.auto.out)

pub slice_bounds-told-end-in-Ok : goal.slice_bounds-told-end-in-Ok
slice_bounds-told-end-in-Ok g c =
    let a = c.args in
    let fits = file_fits a.film.now a.asked.track a.asked.grouping_type a.rows.now a.listing.now _ c.file_cue_listing.ensures c.in-Ok.is in
    simp length-take (omega (arith, fits, c.file_cue_listing.auto.out))
