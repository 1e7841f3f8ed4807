-- A group that is opened, stage by stage, and back; and refused by the first stage that refuses.
use mathlib.Core.Path.{◌≡◌}
use mathlib.Core.List.{List}
use Prim.Native.Nat.{ℕ}
use Rattle.base_fields.specs.Answer.{given, refused}
use Rattle.base_fields.proofs.Answers.{given_inj, given-first}
use Rattle.listing_spec.specs.Walk.{Sources, sources}
use Rattle.listing_spec.specs.Table.{TableContents, taken_table, entries_taken}
use Rattle.listing_spec.specs.Group.{Group, group_taken}
use Rattle.listing_spec.specs.Meanings.{patterns_in, entries_in}
use Rattle.listing_spec.proofs.Taken.{table-given}

abbrev pub table_of : Group → TableContents
table_of g = record { patterns = g.patterns; rows = g.rows }

module _ (s : List ℕ) (t room : ℕ) where
  pub record Opened (g : Group) : Type 0 where
    pub taken : Sources
    pub walked : sources s t ≡ given taken
    pub parsed : taken_table s room taken.table ≡ given (table_of g)
    pub described : entries_taken s taken.sgpd ≡ given g.entries

  pub opened : {g : Group} → group_taken s t room ≡ given g → Opened g
  unfolding group_taken
  opened e =
      let walk = given-first (sources s t) _ e in
      let table = given-first (taken_table s room walk.0.table) _ walk.2 in
      let entries = given-first (entries_taken s walk.0.sgpd) _ table.2 in
      let same = given_inj entries.2 in
      rw (← same) (record { taken = walk.0; walked = walk.1; parsed = table.1; described = entries.1 })

  pub walk_refused : {n : ℕ} → sources s t ≡ refused n → group_taken s t room ≡ refused n
  unfolding group_taken
  walk_refused e = rw e

  module _ {taken : Sources} (walked : sources s t ≡ given taken) where
    pub table-refused : {n : ℕ} → taken_table s room taken.table ≡ refused n → group_taken s t room ≡ refused n
    unfolding group_taken
    table-refused e = rw (walked, e)

    module _ {table : TableContents} (parsed : taken_table s room taken.table ≡ given table) where
      pub entries-refused : {n : ℕ} → entries_taken s taken.sgpd ≡ refused n → group_taken s t room ≡ refused n
      unfolding group_taken
      entries-refused e = rw (walked, parsed, e)

      pub group-given : {entries : List (List ℕ)} → entries_taken s taken.sgpd ≡ given entries
          → group_taken s t room ≡ given (record { patterns = table.patterns; rows = table.rows; entries = entries })
      unfolding group_taken
      group-given e = rw (walked, parsed, e)

  -- what demand 3 speaks of
  module _ {g : Group} (e : group_taken s t room ≡ given g) where
    pub patterns-in : patterns_in s t ≡ g.patterns
    unfolding patterns_in
    patterns-in =
        let o = opened e in
        let read = table-given s room o.taken.table o.parsed in
        simp (o.walked, read.patterned)

    pub entries-in : entries_in s t ≡ g.entries
    unfolding entries_in
    entries-in = let o = opened e in simp (o.walked, o.described)
