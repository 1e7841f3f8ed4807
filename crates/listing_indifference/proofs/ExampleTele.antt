-- Two bodies for type tele that differ in A11's other items: a type that is not named, a csgp's version and parameter, index values that no sample
-- uses, the bits that fill its last byte, and the low bits of tele.
use mathlib.Core.Path.{◌≡◌, refl}
use mathlib.Core.Logic.{◌⊎◌, inl, inr}
use mathlib.Core.List.{List, [], ◌∷◌}
use mathlib.Core.Option.{some}
use Prim.Native.Nat.{ℕ, zero, suc, ◌+◌, ◌-◌, ◌/◌, ◌%◌, ◌^◌, ◌<◌, ◌≤◌}
use native.Mathlib.Decide.{dec_lt}
use native.Mathlib.Omega.{arith}
use lib.ListN.{set}
use Rattle.base_fields.specs.Answer.{given}
use Rattle.base_fields.specs.Number.{be_at, bit_at, bits_at}
use Rattle.base_fields.specs.Fourcc as fourcc
use Rattle.atom_tree.specs.Atom.{Child, header_at, child_at}
use Rattle.table_rows.specs.Pattern.{Pattern}
use Rattle.table_csgp_head.specs.Csgp.{Pair, width_of, pattern_count_of, stream_place, read_pairs, read_indices, read_patterns, csgp}
use Rattle.base_fields.specs.Span.{Span, bytes_at}
use Rattle.group_sgpd.specs.Sgpd.{implicit_length}
use Rattle.listing_spec.specs.Cue.{cue_listing}
use Rattle.listing_indifference.specs.Bits.{Differ}
use Rattle.listing_indifference.specs.Places as places
use Rattle.listing_indifference.specs.Places.{SbgpListed, CsgpListed, EntryListed, InEntries, laid_out, entries_laid, SgpdListed}
use Rattle.listing_indifference.specs.Examples.{tele_body as body, tele_other as other}
use Rattle.listing_indifference.specs.Body.{child_bytes, in_sbgp, in_csgp, in_sgpd, used_indices, BodyListed}
use Rattle.listing_indifference.proofs.Differ.{differ-refl}
use Rattle.listing_indifference.proofs.Changes.{differ_byte, below}
use Rattle.listing_indifference.proofs.Indifferent.{indifferent}

abbrev rap : Child
rap = record { head = record { type = 0x73626770; size = some 17; header_length = 8; body = 8 }; next = 17 }

abbrev table : Child
table = record { head = record { type = 0x63736770; size = some 27; header_length = 8; body = 25 }; next = 44 }

abbrev descriptions : Child
descriptions = record { head = record { type = 0x73677064; size = some 21; header_length = 8; body = 52 }; next = 65 }

module _ (i k : ℕ) where
  in-rap : i ≡ 64 + k → k < 72 → SbgpListed fourcc.tele (child_bytes body rap) k → BodyListed body fourcc.tele i
  unfolding header_at child_at be_at
  in-rap e m x =
      let d : i - 64 ≡ k = omega arith in
      record { number = 0; place = 0; child = rap; reached = refl; there = refl; from = omega arith; before = omega arith; listed = rw d (in_sbgp refl x) }

  in_table : i ≡ 200 + k → k < 152 → CsgpListed fourcc.tele (used_indices body fourcc.tele) (child_bytes body table) k → BodyListed body fourcc.tele i
  unfolding header_at child_at be_at
  in_table e m x =
      let d : i - 200 ≡ k = omega arith in
      record {
        number = 1;
        place = 17;
        child = table;
        reached = (0, rap, refl, refl, refl);
        there = refl;
        from = omega arith;
        before = omega arith;
        listed = rw d (in_csgp refl x);
      }

  in-descriptions : i ≡ 416 + k → k < 104 → SgpdListed fourcc.tele (used_indices body fourcc.tele) (child_bytes body descriptions) k
      → BodyListed body fourcc.tele i
  unfolding header_at child_at be_at
  in-descriptions e m x =
      let d : i - 416 ≡ k = omega arith in
      record {
        number = 2;
        place = 44;
        child = descriptions;
        reached = (17, table, (0, rap, refl, refl, refl), refl, refl);
        there = refl;
        from = omega arith;
        before = omega arith;
        listed = rw d (in_sgpd refl x);
      }

abbrev pairs : List Pair
pairs = record { pattern_length = 3; sample_count_of = 1 } ∷ []

pairs-read : read_pairs (pattern_count_of (child_bytes body table)) (child_bytes body table) (stream_place (child_bytes body table)) ≡ given pairs
unfolding be_at bit_at bits_at width_of read_pairs
pairs-read = refl

patterns-read : (ps : List Pattern) × (csgp (child_bytes body table) ≡ given ps)
unfolding be_at bit_at bits_at width_of read_pairs read_indices read_patterns csgp
patterns-read = (_, refl)

laid : (P : ℕ → Span → ℕ → Type 0) (i : ℕ) → InEntries P 1 (record { place = 12; size = 1 } ∷ []) i
    → InEntries P 1 (entries_laid (child_bytes body descriptions)) i
unfolding be_at implicit_length laid_out
laid P i x = x

-- the second and third index, and the bits behind them
unused : (k : ℕ) → 140 ≤ k → k < 148 → CsgpListed fourcc.tele (used_indices body fourcc.tele) (child_bytes body table) k
unfolding be_at width_of
unused k l m = places.CsgpListed.unused_index pairs-read (inl (omega arith, omega arith)) (λ z. let w = z.wide in omega arith)

behind : (k : ℕ) → 148 ≤ k → CsgpListed fourcc.tele (used_indices body fourcc.tele) (child_bytes body table) k
unfolding be_at width_of
behind k l = places.CsgpListed.after_indices patterns-read.1 pairs-read (omega arith)

abbrev May : ℕ → Type 0
May i = BodyListed body fourcc.tele i

-- 0x15 and 0x1f: the high half is the index that is used
half : (j : ℕ) → j < 8 → (0x15 / 2 ^ (7 - j) % 2 ≡ 0x1f / 2 ^ (7 - j) % 2) ⊎ May (336 + j)
half zero l = inl refl
half (suc zero) l = inl refl
half (suc (suc zero)) l = inl refl
half (suc (suc (suc zero))) l = inl refl
half (suc (suc (suc (suc n)))) l =
    inr (in_table (336 + suc (suc (suc (suc n)))) (140 + n) (omega arith) (omega arith) (unused (140 + n) (omega arith) (omega arith)))

fill : (j : ℕ) → j < 8 → May (344 + j)
fill j l =
    elim (dec_lt j 4) [
      | yes m ↦ in_table (344 + j) (144 + j) (omega arith) (omega arith) (unused (144 + j) (omega arith) (omega arith))
      | no m ↦ in_table (344 + j) (144 + j) (omega arith) (omega arith) (behind (144 + j) (omega arith))
    ]

-- 0x80 and 0xff: the top bit is read
low : (j : ℕ) → j < 8 → (0x80 / 2 ^ (7 - j) % 2 ≡ 0xff / 2 ^ (7 - j) % 2) ⊎ May (512 + j)
low zero l = inl refl
low (suc n) l =
    inr (in-descriptions (512 + suc n) (97 + n) (omega arith) (omega arith)
    (places.SgpdListed.ignored (laid (λ k e i. EntryListed fourcc.tele (bytes_at (child_bytes body descriptions) e) i) _ (inl (omega arith, omega arith, places.EntryListed.low_tele refl (omega arith) (omega arith))))))

related : Differ May body other
unfolding be_at
related =
    let may = May in
    let b1 = set body 16 77 in
    let b2 = set b1 25 9 in
    let b3 = set b2 34 3 in
    let b4 = set b3 42 0x1f in
    let b5 = set b4 43 0xab in
    let d1 = differ_byte may body body (differ-refl may body (below body refl)) 16 77 (omega arith) (omega arith)
    (λ j l. inr (in-rap (128 + j) (64 + j) (omega arith) (omega arith) (places.SbgpListed.other_type (λ e. omega arith) (omega arith)))) in
    let d2 = differ_byte may body b1 d1 25 9 (omega arith) (omega arith)
    (λ j l. inr (in_table (200 + j) j (omega arith) (omega arith) (places.CsgpListed.version_and_flags (omega arith)))) in
    let d3 = differ_byte may body b2 d2 34 3 (omega arith) (omega arith)
    (λ j l. inr (in_table (272 + j) (72 + j) (omega arith) (omega arith) (places.CsgpListed.parameter refl (omega arith) (omega arith)))) in
    let d4 = differ_byte may body b3 d3 42 0x1f (omega arith) (omega arith) half in
    let d5 = differ_byte may body b4 d4 43 0xab (omega arith) (omega arith) (λ j l. inr (fill j l)) in
    differ_byte may body b5 d5 64 0xff (omega arith) (omega arith) low

pub example : (room size : ℕ) → cue_listing body fourcc.tele room size ≡ cue_listing other fourcc.tele room size
example room size = indifferent fourcc.tele body other (record { differ = related }) room size
