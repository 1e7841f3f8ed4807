use native.Mathlib.Omega.{arith}
use Rattle.group_entries.specs.declared.EntryLayout.TheVariants.{Sap}
use Rattle.listing_values.proofs.Parts.{ready-sized, value-put}
use borrow.Author.Rules.{rules}
use Rattle.listing_values.proofs.plain.put_sap.Goals as goal

pub put_flag_and_number-requires : goal.put_flag_and_number-requires
put_flag_and_number-requires c = (ready-sized c.requires, search rules, search rules)

pub returns : goal.returns
returns c = value-put Sap _ c.put_flag_and_number.ensures (omega arith)
