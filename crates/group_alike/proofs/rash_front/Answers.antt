-- The decoder's answer by `front-told`; the points' end is that of the count.
use mathlib.Core.Path.{refl, ap, sym, ◌∙◌}
use Rattle.group_entries.specs.Told.{told_rash}
use Rattle.group_entries.specs.declared.EntryLayout.TheVariants.{Rash}
use Rattle.group_entries.proofs.Front.{handed}
use Rattle.group_entries.proofs.Extent.{rash-extent}
use Rattle.group_alike.proofs.Fronts.{front-told}
use Rattle.group_alike.proofs.rash_front.Goals as goal

pub returns : goal.returns
returns c =
    let e = c.in_ok-rash.was in
    let x = rash-extent {s = c.args.s.now} (record { told = ap told_rash (sym e) ∙ c.decode_rash.ensures }) in
    rw (c.rash_points_end.ensures.0, x.points) (front-told Rash _ c.requires refl c.decode_rash.ensures e)

pub returns-in_err-rash : goal.returns-in_err-rash
returns-in_err-rash c = rw (handed c.from_residual.ensures) (front-told Rash _ c.requires refl c.decode_rash.ensures c.in_err-rash.was)
