-- The bytes of a stretch: its length, its kind, and the value in kind 2.
use mathlib.Core.Path.{◌≡◌, refl}
use mathlib.Core.List.{List, [], append-nil}
use Prim.Native.Nat.{ℕ, ◌+◌, ◌-◌, ◌^◌, ◌≤◌, ◌<◌}
use native.Mathlib.Omega.{arith}
use lib.ListN.{length}
use Rattle.base_fields.specs.Answer.{given, input_limit}
use Rattle.base_fields.specs.Span.{bytes_at, span_of}
use Rattle.base_fields.specs.declared.Part.{Part}
use Rattle.base_fields.proofs.Answers.{given_inj, given-first}
use Rattle.group_entries.specs.Decoded.{Decoded}
use Rattle.group_entries.specs.Layout.{layout_of, decode_as, decode}
use Rattle.group_entries.specs.declared.EntryLayout.{EntryLayout}
use Rattle.listing_theorem.specs.Meaning.{Meaning, outside, missing, value}
use Rattle.listing_theorem.specs.Groups.{groups}
use Rattle.listing_theorem.specs.Listing.{stretch_bytes, kind, field_bytes}
use Rattle.listing_numbers.specs.Store.{Puts, place_limit}
use Rattle.listing_numbers.proofs.Stores.{puts_then, number-near, number-near_64}
use Rattle.listing_values.specs.Value.{PutsValue}
use Rattle.listing_meanings.specs.Meant.{entry_meaning, Means}
use Rattle.listing_meanings.specs.declared.MeaningAt.TheVariants as at
use Rattle.listing_meanings.proofs.Pairs.{part-short}
use Rattle.listing_stretches.specs.Entered.{PutsStretch}

module _ (t : ℕ) (s : List ℕ) (samples : ℕ) (p : ℕ) (o q : List ℕ) (j : ℕ) where
  -- a kind without a value
  plain : (m : Meaning) → field_bytes m ≡ [] → {u : List ℕ} {r : ℕ} → Puts (groups samples) p o q j → Puts (groups (kind m)) j q u r → Puts (stretch_bytes (record { samples = samples; meaning = m })) p o u r
  plain m e a b = rw (e, append-nil) (puts_then a b)

  pub put-outside : {u : List ℕ} {r : ℕ} → Puts (groups samples) p o q j → Puts (groups 0) j q u r → samples < 2 ^ 64 → PutsStretch t s samples at.Outside p o u r
  put-outside a b h =
      record {
        puts = λ m e. rw (← given_inj e) (plain outside refl a b);
        near = omega (arith, number-near_64 samples a h, number-near 0 0 b (omega arith));
      }

  pub put-missing : {u : List ℕ} {r : ℕ} → Puts (groups samples) p o q j → Puts (groups 1) j q u r → samples < 2 ^ 64 → PutsStretch t s samples at.Missing p o u r
  put-missing a b h =
      record {
        puts = λ m e. rw (← given_inj e) (plain missing refl a b);
        near = omega (arith, number-near_64 samples a h, number-near 0 1 b (omega arith));
      }

  pub put-entry : (e : Part) {l : EntryLayout} {u v : List ℕ} {k r : ℕ} → Puts (groups samples) p o q j → Puts (groups 2) j q u k → samples < 2 ^ 64 → l ≡ layout_of t
      → PutsValue l (bytes_at s (span_of e)) k u v r → PutsStretch t s samples (at.Entry e) p o v r
  unfolding decode
  put-entry e a b h y c =
      record {
        puts = λ m g.
            let d = given-first (decode t (bytes_at s (span_of e))) (λ x. given (value x)) g in
            rw (← given_inj d.2) (puts_then (puts_then a b) (c.puts d.0 (rw y d.1)));
        near = omega (arith, number-near_64 samples a h, number-near 0 2 b (omega arith), c.near);
      }

-- a part as it is cut is the entry's bytes
pub cut : (e : Part) → e.place + e.size - e.place ≡ e.size
cut e = omega arith

-- an entry that has a meaning decodes
pub entry_value : (t : ℕ) (s : List ℕ) (e : Part) {l : EntryLayout} → l ≡ layout_of t → Means t s (entry_meaning e) → length s ≤ input_limit → (k : ℕ) → k ≤ place_limit
    → (length (bytes_at s (span_of e)) ≤ input_limit) × (k ≤ place_limit)
    × ((v : Decoded) × (decode_as l (bytes_at s (span_of e)) ≡ given v))
unfolding decode
entry_value t s e y m h k near =
    let d = given-first (decode t (bytes_at s (span_of e))) (λ x. given (value x)) m.given in
    (part-short s (span_of e) h, near, (d.0, rw y d.1))
