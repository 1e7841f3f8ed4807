-- The numbers that the decoders refuse with.
use mathlib.Core.List.{List}
use Prim.Native.Nat.{ℕ, ◌+◌, ◌-◌, ◌%◌}
use lib.Dec.{ltb, leb, eqb}
use lib.ListN.{length}
use borrow.Author.Rules.{rules}
use Rattle.base_fields.specs.Answer.{Answer, within}
use Rattle.base_fields.proofs.Numbered.{RefusesBy, Number, Numbered, by-refuse_if, by-none_if, by-and_then, numbered_within, room-numbered}
use Rattle.group_entries.specs.Decoded.{point_count, points_end, offsets_end, decode_roll, decode_rap, decode_tele, decode_sap, decode_rash, decode_alst, point_at, offset_at, pair_at, up_to, by_number, rash_point, rash_points, alst_offset, alst_pair}
use Rattle.group_entries.specs.Layout.{layout_of, decode_as, decode}
use Rattle.group_entries.specs.declared.EntryLayout.{EntryLayout}
use Rattle.group_entries.specs.declared.EntryLayout.TheVariants.{Roll, Rap, Tele, Sap, Rash, Alst, Raw}

module _ (R : ℕ → Type 0) (N : Type 0) (s : List ℕ) where
  roll-by : R 40 → RefusesBy R N (decode_roll s)
  unfolding decode_roll
  roll-by r = by-refuse_if R N (ltb (length s) 2) 40 _ r tt

  rap-by : R 40 → RefusesBy R N (decode_rap s)
  unfolding decode_rap
  rap-by r = by-refuse_if R N (ltb (length s) 1) 40 _ r tt

  tele-by : R 40 → RefusesBy R N (decode_tele s)
  unfolding decode_tele
  tele-by r = by-refuse_if R N (ltb (length s) 1) 40 _ r tt

  sap-by : R 40 → RefusesBy R N (decode_sap s)
  unfolding decode_sap
  sap-by r = by-refuse_if R N (ltb (length s) 1) 40 _ r tt

  rash-by : R 40 × R 41 × R 42 × R 43 → RefusesBy R N (decode_rash s)
  unfolding decode_rash
  rash-by r =
      by-refuse_if R N (ltb (length s) 2) 40 _ r.0
      (by-refuse_if R N (eqb (point_count s) 0) 41 _ r.1
      (by-refuse_if R N (ltb (length s) (points_end s)) 42 _ r.2 (by-refuse_if R N (ltb (length s) (points_end s + 9)) 43 _ r.3 tt)))

  alst-by : R 40 × R 44 × R 45 → RefusesBy R N (decode_alst s)
  unfolding decode_alst
  alst-by r =
      by-refuse_if R N (ltb (length s) 4) 40 _ r.0
      (by-refuse_if R N (ltb (length s) (offsets_end s)) 44 _ r.1 (by-refuse_if R N (ltb 0 ((length s - offsets_end s) % 4)) 45 _ r.2 tt))

  layout_by : R 40 × R 41 × R 42 × R 43 × R 44 × R 45 → (l : EntryLayout) → RefusesBy R N (decode_as l s)
  layout_by r Roll = by-and_then R N (decode_roll s) _ (roll-by r.0) (λ v e. tt)
  layout_by r Rap = by-and_then R N (decode_rap s) _ (rap-by r.0) (λ v e. tt)
  layout_by r Tele = by-and_then R N (decode_tele s) _ (tele-by r.0) (λ v e. tt)
  layout_by r Sap = by-and_then R N (decode_sap s) _ (sap-by r.0) (λ v e. tt)
  layout_by r Rash = by-and_then R N (decode_rash s) _ (rash-by (r.0, r.1, r.2, r.3)) (λ v e. tt)
  layout_by r Alst = by-and_then R N (decode_alst s) _ (alst-by (r.0, r.4, r.5)) (λ v e. tt)
  layout_by r Raw = tt

  pub decode-by : R 40 × R 41 × R 42 × R 43 × R 44 × R 45 → (t : ℕ) → RefusesBy R N (decode t s)
  unfolding decode
  decode-by r t = layout_by r (layout_of t)

-- none is 0 or 255
read-numbered : {A B : Type 0} (x : Answer A) (count : A → ℕ) (k : ℕ) (b : B) → Numbered x → Numbered (by_number x count k b)
unfolding by_number
read-numbered x count k b n = by-and_then Number Unit x _ n (λ v e. by-none_if Number Unit (leb (count v) k) _ tt tt)

module _ (s : List ℕ) where
  pub roll-numbered : Numbered (within s (decode_roll s))
  roll-numbered = numbered_within s _ (roll-by Number Unit s (search rules))

  pub rap-numbered : Numbered (within s (decode_rap s))
  rap-numbered = numbered_within s _ (rap-by Number Unit s (search rules))

  pub tele-numbered : Numbered (within s (decode_tele s))
  tele-numbered = numbered_within s _ (tele-by Number Unit s (search rules))

  pub sap-numbered : Numbered (within s (decode_sap s))
  sap-numbered = numbered_within s _ (sap-by Number Unit s (search rules))

  pub rash-numbered : Numbered (within s (decode_rash s))
  rash-numbered = numbered_within s _ (rash-by Number Unit s (search rules))

  pub alst-numbered : Numbered (within s (decode_alst s))
  alst-numbered = numbered_within s _ (alst-by Number Unit s (search rules))

  pub point-numbered : (k : ℕ) → Numbered (within s (rash_point s k))
  point-numbered k = numbered_within s _ (read-numbered (decode_rash s) _ k (point_at s k) (rash-by Number Unit s (search rules)))

  pub points-numbered : (run : List ℕ) → Numbered (within s (rash_points s run))
  points-numbered run =
      numbered_within s _ (by-and_then Number Unit (decode_rash s) _ (rash-by Number Unit s (search rules)) (λ r e. room-numbered run (up_to (point_at s) 0 r.points)))

  pub offset_numbered : (k : ℕ) → Numbered (within s (alst_offset s k))
  offset_numbered k = numbered_within s _ (read-numbered (decode_alst s) _ k (offset_at s k) (alst-by Number Unit s (search rules)))

  pub pair-numbered : (k : ℕ) → Numbered (within s (alst_pair s k))
  pair-numbered k = numbered_within s _ (read-numbered (decode_alst s) _ k (pair_at s k) (alst-by Number Unit s (search rules)))
