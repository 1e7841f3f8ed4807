-- Each arm by the function of its layout.
use mathlib.Core.Path.{refl}
use Rattle.group_alike.proofs.left_of.Goals as goal

pub second_left-requires : goal.second_left-requires
second_left-requires c =
    (λ k. (c.type_inv.a k).fits, λ k. (c.type_inv.b k).fits, refl, refl, λ x. refl)

pub returns-in-Roll : goal.returns-in-Roll
returns-in-Roll c = rw c.in-Roll.is c.roll_left.ensures

pub returns-in-Rap : goal.returns-in-Rap
returns-in-Rap c = rw c.in-Rap.is c.byte_left.ensures

pub returns-in-Tele : goal.returns-in-Tele
returns-in-Tele c = rw c.in-Tele.is c.byte_left-in-Tele.ensures

pub returns-in-Sap : goal.returns-in-Sap
returns-in-Sap c = rw c.in-Sap.is c.byte_left-in-Sap.ensures

pub returns-in-Rash : goal.returns-in-Rash
returns-in-Rash c = rw c.in-Rash.is c.rash_left.ensures

pub returns-in-Alst : goal.returns-in-Alst
returns-in-Alst c = rw c.in-Alst.is c.alst_left.ensures

pub returns-in-Raw : goal.returns-in-Raw
returns-in-Raw c = rw c.in-Raw.is c.second_left.ensures
