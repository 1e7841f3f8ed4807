-- Each arm is the writer of its layout.
use mathlib.Core.Path.{◌≡◌}
use Rattle.group_entries.specs.declared.EntryLayout.{EntryLayout}
use Rattle.group_entries.specs.declared.EntryLayout.TheVariants.{Roll, Rap, Tele, Sap, Rash, Alst, Raw}
use Rattle.listing_values.specs.Parts.{Ready}
use Rattle.listing_values.proofs.put_value.Goals as goal
use Rattle.listing_values.proofs.put_value.Goals.{Start}

ready : (l : EntryLayout) (c : Start) → c.args.layout ≡ l → Ready l c.args.entry.now c.args.at
ready l c e = record { short = c.requires.0; place = c.requires.1; decodes = (c.requires.2.0, rw e at c.requires.2.1) }

pub put_roll-requires : goal.put_roll-requires
put_roll-requires c = ready Roll (goal.at.put_roll-requires c).Start c.in-Roll.is

pub put_rap-requires : goal.put_rap-requires
put_rap-requires c = ready Rap (goal.at.put_rap-requires c).Start c.in-Rap.is

pub put_tele-requires : goal.put_tele-requires
put_tele-requires c = ready Tele (goal.at.put_tele-requires c).Start c.in-Tele.is

pub put_sap-requires : goal.put_sap-requires
put_sap-requires c = ready Sap (goal.at.put_sap-requires c).Start c.in-Sap.is

pub put_rash-requires : goal.put_rash-requires
put_rash-requires c = ready Rash (goal.at.put_rash-requires c).Start c.in-Rash.is

pub put_alst-requires : goal.put_alst-requires
put_alst-requires c = ready Alst (goal.at.put_alst-requires c).Start c.in-Alst.is

pub put_raw-requires : goal.put_raw-requires
put_raw-requires c = ready Raw (goal.at.put_raw-requires c).Start c.in-Raw.is

pub returns-in-Roll : goal.returns-in-Roll
returns-in-Roll c = rw c.in-Roll.is c.put_roll.ensures

pub returns-in-Rap : goal.returns-in-Rap
returns-in-Rap c = rw c.in-Rap.is c.put_rap.ensures

pub returns-in-Tele : goal.returns-in-Tele
returns-in-Tele c = rw c.in-Tele.is c.put_tele.ensures

pub returns-in-Sap : goal.returns-in-Sap
returns-in-Sap c = rw c.in-Sap.is c.put_sap.ensures

pub returns-in-Rash : goal.returns-in-Rash
returns-in-Rash c = rw c.in-Rash.is c.put_rash.ensures

pub returns-in-Alst : goal.returns-in-Alst
returns-in-Alst c = rw c.in-Alst.is c.put_alst.ensures

pub returns-in-Raw : goal.returns-in-Raw
returns-in-Raw c = rw c.in-Raw.is c.put_raw.ensures
