-- The decoder's refusals; else the distance by the layout.
use mathlib.Core.Path.{◌≡◌, refl, ap, sym, ◌∙◌}
use mathlib.Core.Option.{Option}
use lib.IntN.{ℤ}
use native.Mathlib.Omega.{arith}
use Rattle.std.proofs.lemmas.Result.{err_from_is_err_and}
use Rattle.base_fields.specs.Answer.{given, and_then}
use Rattle.group_entries.specs.Layout.{decode_as}
use Rattle.group_entries.specs.declared.EntryLayout.{EntryLayout}
use Rattle.group_entries.proofs.Values.{value_of}
use Rattle.use_decode_start.specs.Start.{distance_of_value}
use Rattle.use_decode_start.proofs.Entries.{entry-refused, entry-given, roll-sized}
use Rattle.use_decode_start.proofs.distances.entry_distance.Goals as goal
use Rattle.use_decode_start.proofs.distances.entry_distance.Goals.{In_ok-front_of}

-- an entry that decodes has the distance of its value
module _ (c : In_ok-front_of) where
  decoded : {l : EntryLayout} {o : Option ℤ} → c.args.layout ≡ l → o ≡ distance_of_value (value_of l c.args.entry.now)
      → given o ≡ and_then (decode_as c.args.layout c.args.entry.now) (λ v. given (distance_of_value v))
  decoded e f =
      entry-given c.args.layout c.args.entry.now (rw c.in_ok-front_of.was at c.front_of.ensures)
      (f ∙ ap (λ (l : EntryLayout). distance_of_value (value_of l c.args.entry.now)) (sym e))

pub returns-in_err-front_of : goal.returns-in_err-front_of
returns-in_err-front_of c =
    let a = c.args in
    let out = err_from_is_err_and c.from_residual.result c.from_residual.ensures.1 in
    rw (out.1, out.2) (entry-refused a.layout a.entry.now (rw c.in_err-front_of.was at c.front_of.ensures))

pub read_u16-requires : goal.read_u16-requires
read_u16-requires c =
    let a = c.args in
    omega (arith, roll-sized a.layout a.entry.now (rw c.in_ok-front_of.was at c.front_of.ensures) c.in-Roll.is)

pub returns-in-Roll : goal.returns-in-Roll
returns-in-Roll c =
    decoded (goal.at.returns-in-Roll c).In_ok-front_of c.in-Roll.is (c.signed_distance-distance.ensures ∙ rw c.read_u16.ensures.0 refl)

pub returns-in-Rap : goal.returns-in-Rap
returns-in-Rap c = decoded (goal.at.returns-in-Rap c).In_ok-front_of c.in-Rap.is refl

pub returns-in-Tele : goal.returns-in-Tele
returns-in-Tele c = decoded (goal.at.returns-in-Tele c).In_ok-front_of c.in-Tele.is refl

pub returns-in-Sap : goal.returns-in-Sap
returns-in-Sap c = decoded (goal.at.returns-in-Sap c).In_ok-front_of c.in-Sap.is refl

pub returns-in-Rash : goal.returns-in-Rash
returns-in-Rash c = decoded (goal.at.returns-in-Rash c).In_ok-front_of c.in-Rash.is refl

pub returns-in-Alst : goal.returns-in-Alst
returns-in-Alst c = decoded (goal.at.returns-in-Alst c).In_ok-front_of c.in-Alst.is refl

pub returns-in-Raw : goal.returns-in-Raw
returns-in-Raw c = decoded (goal.at.returns-in-Raw c).In_ok-front_of c.in-Raw.is refl
