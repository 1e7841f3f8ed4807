-- The numbers that a group is refused with: the walk's, those of the table's structure, the sgpd's, which are other than 29 and 54; and those of the rows.
use mathlib.Core.Path.{◌≡◌}
use mathlib.Core.List.{List}
use Prim.Native.Nat.{ℕ}
use borrow.Author.Rules.{rules}
use Rattle.base_fields.specs.Answer.{given}
use Rattle.base_fields.specs.Span.{bytes_at}
use Rattle.base_fields.proofs.Numbered.{RefusesBy, by-and_then}
use Rattle.base_fields.proofs.Firm.{Other, Firm}
use Rattle.atom_tree.proofs.Numbered.{WalkerNumbers}
use Rattle.table_sbgp.specs.Sbgp.{sbgp}
use Rattle.table_sbgp.proofs.Numbered.{sbgp-by}
use Rattle.table_csgp_head.proofs.Numbered.{csgp-by}
use Rattle.listing_spec.specs.Walk.{TakenTable, sbgp_at, csgp_at, Sources, sources}
use Rattle.listing_spec.specs.Table.{patterns_taken, taken_table, entries_taken}
use Rattle.listing_spec.specs.Group.{group_taken}
use Rattle.listing_spec.proofs.Taken.{parsed_taken, table-read}
use Rattle.listing_spec.proofs.FirmWalk.{WalkNumbers, sources-by}
use Rattle.listing_spec.proofs.FirmParts.{EntryNumbers, entries_by}

abbrev StructureNumbers : (ℕ → Type 0) → Type 0
StructureNumbers R = R 55 × R 20 × R 21 × R 22 × R 23 × R 24 × R 25 × R 26 × R 27 × R 67

abbrev GroupNumbers : (ℕ → Type 0) → Type 0
GroupNumbers R = WalkerNumbers R × WalkNumbers R × StructureNumbers R × EntryNumbers R

module _ (R : ℕ → Type 0) (N : Type 0) (s : List ℕ) where
  patterns-by : StructureNumbers R → (k : TakenTable) → RefusesBy R N (patterns_taken s k)
  unfolding patterns_taken
  patterns-by r (sbgp_at b) = let p = bytes_at s b in by-and_then R N (sbgp p) _ (sbgp-by R N p (r.0, r.1, r.2, r.3, r.4)) (λ x e. tt)
  patterns-by r (csgp_at b) = csgp-by R N (bytes_at s b) (r.0, r.1, r.2, r.3, r.5, r.6, r.7, r.8, r.9)

  -- where the rows are entered or refused so
  pub group-by : GroupNumbers R → (t room : ℕ) → ((taken : Sources) → sources s t ≡ given taken → RefusesBy R N (parsed_taken s room taken.table))
      → RefusesBy R N (group_taken s t room)
  unfolding group_taken
  group-by r t room parsed =
      by-and_then R N (sources s t) _ (sources-by R N r.0 r.1 s t) (λ taken e.
      by-and_then R N (taken_table s room taken.table) _
      (rw (table-read s room taken.table)
      (by-and_then R N (patterns_taken s taken.table) _ (patterns-by r.2 taken.table) (λ ps f.
      by-and_then R N (parsed_taken s room taken.table) _ (parsed taken e) (λ x g. tt)))) (λ table f.
      by-and_then R N (entries_taken s taken.sgpd) _ (entries_by R N r.3 s taken.sgpd) (λ entries g. tt)))

pub group-firm : (s : List ℕ) (t room : ℕ) → ((taken : Sources) → sources s t ≡ given taken → Firm (parsed_taken s room taken.table))
    → Firm (group_taken s t room)
group-firm s t room parsed = group-by Other ⊥ s (search rules) t room parsed
