-- The decoder's answer by `front-told`.
use mathlib.Core.Path.{refl}
use Rattle.group_entries.specs.declared.EntryLayout.TheVariants.{Alst}
use Rattle.group_entries.proofs.Front.{handed}
use Rattle.group_alike.proofs.Fronts.{front-told}
use Rattle.group_alike.proofs.alst_front.Goals as goal

pub returns : goal.returns
returns c = front-told Alst _ c.requires refl c.decode_alst.ensures c.in_ok-decode_alst.was

pub returns-in_err-decode_alst : goal.returns-in_err-decode_alst
returns-in_err-decode_alst c = rw (handed c.from_residual.ensures) (front-told Alst _ c.requires refl c.decode_alst.ensures c.in_err-decode_alst.was)
