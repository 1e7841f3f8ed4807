-- Request A11 of document 02 ("What cannot matter"), item by item, within one atom: which bits of its body s, or of an entry's contents, may differ.
-- Bits are counted from the high bit of byte 0, so byte n has the bits 8 n to 8 n + 7: flag bits 8 to 23 are bytes 1 and 2, and the 9th byte begins at
-- bit 64. t is the named type; `used` are the indices of the samples, none where no table is read.
use Rattle.std.specs.Prelude.{ℕ, zero, suc, ◌+◌, ◌-◌, ◌*◌, ◌%◌, ◌<◌, ◌≤◌, ◌≡◌, ◌⊎◌, true, false}
use mathlib.Core.List.{List, [], ◌∷◌, Memᴰ}
use Rattle.base_fields.specs.Answer.{given, and_then}
use Rattle.base_fields.specs.Number.{be_at}
use Rattle.base_fields.specs.Span.{Span, bytes_at}
use Rattle.base_fields.specs.Fourcc as fourcc
use Rattle.table_rows.specs.Row.{Table}
use Rattle.table_rows.specs.Pattern.{Pattern}
use Rattle.table_front.specs.Front.{has_parameter, count_of}
use Rattle.table_front.specs.declared.TableKind.TheVariants.{Sbgp, Csgp}
use Rattle.table_sbgp.specs.Sbgp.{rows_place, sbgp}
use Rattle.table_csgp_head.specs.Csgp.{Pair, read_pairs, has_marks, index_width_of, index_place, pattern_count_of, stream_place, csgp}
use Rattle.group_sgpd.specs.Sgpd.{entry_count_place, entry_count_of, declared_entry, sgpd}
use Rattle.group_entries.specs.Decoded.{Rash, decode_rash, points_end}
use Rattle.listing_spec.specs.Meanings.{list_of}

pub data SbgpListed (t : ℕ) (s : List ℕ) (i : ℕ) : Type 0 where
  -- "sbgp .. flags": bytes 1 to 3
  flags : 8 ≤ i → i < 32 → SbgpListed t s i
  -- "parameter contents": the 4 bytes at 8, where there is a parameter
  parameter : has_parameter Sbgp s ≡ true → 64 ≤ i → i < 96 → SbgpListed t s i
  -- "bytes after the last .. row .. of an atom that is read whole"
  after_rows : {x : Table} → sbgp s ≡ given x → 8 * (rows_place s + 8 * count_of Sbgp s) ≤ i → SbgpListed t s i
  -- "from the body's 9th byte on in sbgp .. of other grouping types"
  other_type : (be_at 4 s 4 ≡ t → ⊥) → 64 ≤ i → SbgpListed t s i

-- the index values that no sample uses, of patterns whose indices of w bits begin at bit q: position k is used where k is below the sample count
abbrev pub UnusedIn : ℕ → List Pair → ℕ → ℕ → Type 0
UnusedIn w [] q i = ⊥
UnusedIn w (r ∷ rs) q i =
    ((q + w * r.sample_count_of ≤ i) × (i < q + w * r.pattern_length)) ⊎ UnusedIn w rs (q + w * r.pattern_length) i

-- where the indices end
abbrev pub index_end : ℕ → List Pair → ℕ → ℕ
index_end w [] q = q
index_end w (r ∷ rs) q = index_end w rs (q + w * r.pattern_length)

-- "on the same side of number 67": 67 asks one bit of an index, the highest of 32 where flag bit 7 is clear. Where it agrees, both values are on one side
pub record SideBit (s : List ℕ) (i : ℕ) : Type 0 where
  pub plain : has_marks s ≡ false
  pub wide : index_width_of s ≡ 32
  pub top : (i - index_place s) % 32 ≡ 0

pub data CsgpListed (t : ℕ) (used : List ℕ) (s : List ℕ) (i : ℕ) : Type 0 where
  -- "csgp flag bits 8 to 23 and version": bytes 0 to 2
  version_and_flags : i < 24 → CsgpListed t used s i
  -- "parameter contents"
  parameter : has_parameter Csgp s ≡ true → 64 ≤ i → i < 96 → CsgpListed t used s i
  -- "csgp index values that no sample uses, on the same side of number 67": by their position in their pattern
  unused_index : {rs : List Pair} → read_pairs (pattern_count_of s) s (stream_place s) ≡ given rs → UnusedIn (index_width_of s) rs (index_place s) i
      → (SideBit s i → ⊥) → CsgpListed t used s i
  -- and all of them where there are no samples, as where a refusal comes before them
  no_sample : {rs : List Pair} → used ≡ [] → read_pairs (pattern_count_of s) s (stream_place s) ≡ given rs → index_place s ≤ i
      → i < index_end (index_width_of s) rs (index_place s) → (SideBit s i → ⊥) → CsgpListed t used s i
  -- "bytes after the last .. index of an atom that is read whole", and the bits that fill its last byte
  after_indices : {rs : List Pair} {ps : List Pattern} → csgp s ≡ given ps → read_pairs (pattern_count_of s) s (stream_place s) ≡ given rs
      → index_end (index_width_of s) rs (index_place s) ≤ i → CsgpListed t used s i
  -- "from the body's 9th byte on in .. csgp .. of other grouping types"
  other_type : (be_at 4 s 4 ≡ t → ⊥) → 64 ≤ i → CsgpListed t used s i

-- bits of the contents x of an entry that a sample uses
pub data EntryListed (t : ℕ) (x : List ℕ) (i : ℕ) : Type 0 where
  -- "low bits of tele"
  low_tele : t ≡ fourcc.tele → 1 ≤ i → i < 8 → EntryListed t x i
  -- "the three middle bits of "sap ""
  middle_sap : t ≡ fourcc.sap → 1 ≤ i → i < 4 → EntryListed t x i
  -- "roll, prol, "rap ", tele, "sap " and rash bytes past those that an accepting decoder reads"
  after_roll : t ≡ fourcc.roll → 16 ≤ i → EntryListed t x i
  after_prol : t ≡ fourcc.prol → 16 ≤ i → EntryListed t x i
  after_rap : t ≡ fourcc.rap → 8 ≤ i → EntryListed t x i
  after_tele : t ≡ fourcc.tele → 8 ≤ i → EntryListed t x i
  after_sap : t ≡ fourcc.sap → 8 ≤ i → EntryListed t x i
  after_rash : {r : Rash} → t ≡ fourcc.rash → decode_rash x ≡ given r → 8 * (points_end x + 9) ≤ i → EntryListed t x i

-- bit i is one of the contents of an entry, and P says so of the entry's number (the first of the list has number k), its span and the bit within it
abbrev pub InEntries : (ℕ → Span → ℕ → Type 0) → ℕ → List Span → ℕ → Type 0
InEntries P k [] i = ⊥
InEntries P k (e ∷ es) i =
    ((8 * e.place ≤ i) × (i < 8 * (e.place + e.size)) × P k e (i - 8 * e.place)) ⊎ InEntries P (suc k) es i

-- n entries, the first at place p, as they are declared: up to the first that has no place, and also where the payload ends before they do. Those of a
-- payload that is read whole are what sgpd gives (`laid-are` of proofs/Spans.antt)
unfoldable pub laid_out : ℕ → List ℕ → ℕ → List Span
laid_out zero s p = []
laid_out (suc n) s p = list_of (and_then (declared_entry s p) (λ e. given (e ∷ laid_out n s (e.place + e.size))))

abbrev pub first_place : List ℕ → ℕ
first_place s = entry_count_place s + 4

abbrev pub entries_laid : List ℕ → List Span
entries_laid s = laid_out (entry_count_of s) s (first_place s)

-- where entries end, the first of which begins at place p
abbrev pub entries_end : List Span → ℕ → ℕ
entries_end [] p = p
entries_end (e ∷ es) p = entries_end es (e.place + e.size)

pub data SgpdListed (t : ℕ) (used : List ℕ) (s : List ℕ) (i : ℕ) : Type 0 where
  -- "sgpd flags": bytes 1 to 3
  flags : 8 ≤ i → i < 32 → SgpdListed t used s i
  -- "contents of entries that no sample uses"
  unused_entry : InEntries (λ k e j. Memᴰ k used → ⊥) 1 (entries_laid s) i → SgpdListed t used s i
  -- "low bits of tele and the three middle bits of "sap "; roll, prol, .. bytes past those that an accepting decoder reads"
  ignored : InEntries (λ k e j. EntryListed t (bytes_at s e) j) 1 (entries_laid s) i → SgpdListed t used s i
  -- "bytes after the last entry .. of an atom that is read whole"
  after_entries : {es : List Span} → sgpd s ≡ given es → 8 * entries_end es (first_place s) ≤ i → SgpdListed t used s i
  -- "from the body's 9th byte on in .. sgpd of other grouping types"
  other_type : (be_at 4 s 4 ≡ t → ⊥) → 64 ≤ i → SgpdListed t used s i
