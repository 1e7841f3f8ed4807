-- The numbers that an sbgp refuses with.
use mathlib.Core.List.{List}
use Prim.Native.Nat.{ℕ, ◌+◌, ◌*◌}
use lib.Dec.{ltb}
use lib.ListN.{length}
use borrow.Author.Rules.{rules}
use Rattle.base_fields.proofs.Numbered.{RefusesBy, Number, Numbered, by-refuse_if, by-and_then}
use Rattle.base_fields.proofs.Firm.{Other, Firm}
use Rattle.table_front.specs.Front.{count_of}
use Rattle.table_front.specs.declared.TableKind.TheVariants.{Sbgp}
use Rattle.table_front.proofs.Numbered.{front_by}
use Rattle.table_sbgp.specs.Sbgp.{rows_place, table_in, sbgp, parse_sbgp}

module _ (R : ℕ → Type 0) (N : Type 0) (s : List ℕ) where
  pub sbgp-by : R 55 × R 20 × R 21 × R 22 × R 23 → RefusesBy R N (sbgp s)
  unfolding sbgp
  sbgp-by r = front_by R N s (r.0, r.1, r.2, r.3) Sbgp (table_in s) (by-refuse_if R N (ltb (length s) (rows_place s + 8 * count_of Sbgp s)) 23 _ r.4 tt)

pub sbgp-firm : (s : List ℕ) → Firm (sbgp s)
sbgp-firm s = sbgp-by Other ⊥ s (search rules)

-- none is 0 or 255
pub sbgp-numbered : (room : ℕ) (s : List ℕ) → Numbered (parse_sbgp s room)
sbgp-numbered room s =
    by-and_then Number Unit (sbgp s) _ (sbgp-by Number Unit s (search rules)) (λ t e.
    by-refuse_if Number Unit (ltb room (length t.rows)) 29 _ (search rules) tt)
