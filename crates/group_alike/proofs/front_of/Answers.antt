-- Each arm is the front of its layout, from the decoder's answer: `arm` at the place where the match on the layout began.
use mathlib.Core.Path.{◌≡◌, refl}
use Rattle.base_fields.specs.Answer.{given, and_then, within}
use Rattle.group_entries.specs.declared.EntryLayout.{EntryLayout}
use Rattle.group_entries.specs.declared.EntryLayout.TheVariants.{Roll, Rap, Tele, Sap}
use Rattle.group_entries.proofs.Front.{handed}
use Rattle.group_alike.specs.Front.{FrontIs, front_size}
use Rattle.group_alike.proofs.Fronts.{decoder_of, front-told}
use Rattle.group_alike.proofs.front_of.Goals as goal
use Rattle.group_alike.proofs.front_of.Goals.{Start}

arm : (m : EntryLayout) (c : Start) {y r : (decoder_of m).Returned} → c.args.layout ≡ m
    → let s = c.args.s.now in
    (decoder_of m).told y ≡ within s ((decoder_of m).decoded s) → y ≡ r → FrontIs (and_then ((decoder_of m).told r) (λ u. given (front_size m s))) c.args.layout s
arm m c p e q = front-told m _ c.requires p e q

pub returns-in_ok-decode_roll-in-Roll : goal.returns-in_ok-decode_roll-in-Roll
returns-in_ok-decode_roll-in-Roll c = arm Roll (goal.at.returns-in_ok-decode_roll-in-Roll c).Start c.in-Roll.is c.decode_roll.ensures c.in_ok-decode_roll-in-Roll.was

pub returns-in_err-decode_roll-in-Roll : goal.returns-in_err-decode_roll-in-Roll
returns-in_err-decode_roll-in-Roll c = rw (handed c.from_residual.ensures) (arm Roll (goal.at.returns-in_err-decode_roll-in-Roll c).Start c.in-Roll.is c.decode_roll.ensures c.in_err-decode_roll-in-Roll.was)

pub returns-in_ok-decode_rap-in-Rap : goal.returns-in_ok-decode_rap-in-Rap
returns-in_ok-decode_rap-in-Rap c = arm Rap (goal.at.returns-in_ok-decode_rap-in-Rap c).Start c.in-Rap.is c.decode_rap.ensures c.in_ok-decode_rap-in-Rap.was

pub returns-in_err-decode_rap-in-Rap : goal.returns-in_err-decode_rap-in-Rap
returns-in_err-decode_rap-in-Rap c = rw (handed c.from_residual-in_err-decode_rap-in-Rap.ensures) (arm Rap (goal.at.returns-in_err-decode_rap-in-Rap c).Start c.in-Rap.is c.decode_rap.ensures c.in_err-decode_rap-in-Rap.was)

pub returns-in_ok-decode_tele-in-Tele : goal.returns-in_ok-decode_tele-in-Tele
returns-in_ok-decode_tele-in-Tele c = arm Tele (goal.at.returns-in_ok-decode_tele-in-Tele c).Start c.in-Tele.is c.decode_tele.ensures c.in_ok-decode_tele-in-Tele.was

pub returns-in_err-decode_tele-in-Tele : goal.returns-in_err-decode_tele-in-Tele
returns-in_err-decode_tele-in-Tele c = rw (handed c.from_residual-in_err-decode_tele-in-Tele.ensures) (arm Tele (goal.at.returns-in_err-decode_tele-in-Tele c).Start c.in-Tele.is c.decode_tele.ensures c.in_err-decode_tele-in-Tele.was)

pub returns-in_ok-decode_sap-in-Sap : goal.returns-in_ok-decode_sap-in-Sap
returns-in_ok-decode_sap-in-Sap c = arm Sap (goal.at.returns-in_ok-decode_sap-in-Sap c).Start c.in-Sap.is c.decode_sap.ensures c.in_ok-decode_sap-in-Sap.was

pub returns-in_err-decode_sap-in-Sap : goal.returns-in_err-decode_sap-in-Sap
returns-in_err-decode_sap-in-Sap c = rw (handed c.from_residual-in_err-decode_sap-in-Sap.ensures) (arm Sap (goal.at.returns-in_err-decode_sap-in-Sap c).Start c.in-Sap.is c.decode_sap.ensures c.in_err-decode_sap-in-Sap.was)

pub returns-in-Rash : goal.returns-in-Rash
returns-in-Rash c = rw c.in-Rash.is c.rash_front.ensures

pub returns-in-Alst : goal.returns-in-Alst
returns-in-Alst c = rw c.in-Alst.is c.alst_front.ensures

pub returns-in-Raw : goal.returns-in-Raw
returns-in-Raw c = rw c.in-Raw.is refl
