use mathlib.Core.Path.{sym}
use native.Mathlib.Omega.{arith}
use Rattle.cue_film.proofs.Onward.{top-ahead}
use Rattle.cue_film.proofs.top.find_moov.Goals as goal

pub loop-at-smaller : goal.loop-at-smaller
loop-at-smaller c =
    let ahead = rw c.in-Some-size.is at (top-ahead _ _ (sym (rw c.in-Some.is at c.in_ok-atom.ensures))) in
    omega (arith, ahead.0, ahead.1)
