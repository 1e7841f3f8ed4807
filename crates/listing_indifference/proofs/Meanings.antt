-- Meanings depend on used entries only, and on what their decoders read.
use mathlib.Core.Path.{◌≡◌, refl, sym, ◌∙◌}
use mathlib.Core.Logic.{inl, inr}
use mathlib.Core.List.{List, [], ◌∷◌, map, Memᴰ}
use Prim.Native.Nat.{ℕ, zero, suc, ◌+◌, ◌<◌}
use native.Mathlib.Nat.{add-zero}
use native.Mathlib.Omega.{arith}
use borrow.Author.Tests.{ltb-true}
use lib.Dec.{ltb}
use lib.ListN.{length, get_or, length-map}
use Rattle.base_fields.specs.Span.{Span, bytes_at}
use Rattle.base_fields.proofs.Bits.{Bytes}
use Rattle.base_fields.proofs.Both.{choose-same}
use Rattle.listing_theorem.specs.Samples.{meaning_of, meanings}
use Rattle.listing_indifference.specs.Bits.{Differ}
use Rattle.listing_indifference.specs.Places.{EntryListed}
use Rattle.listing_indifference.proofs.Differ.{part-differ}
use Rattle.listing_indifference.proofs.Decoders.{decode-same}
use Rattle.listing_indifference.proofs.Spans.{Contents}
use Rattle.listing_indifference.proofs.Sgpd.{EntryMay}

module _ (t : ℕ) (es fs : List (List ℕ)) where
  -- over the indices of samples
  pub meanings-same : (l : List ℕ) → ((k : ℕ) → Memᴰ k l → meaning_of t es k ≡ meaning_of t fs k) → meanings t es l ≡ meanings t fs l
  unfolding meanings
  meanings-same [] h = refl
  meanings-same (i ∷ l) h = rw (h i (Memᴰ.head refl), meanings-same l (λ k m. h k (Memᴰ.tail m)))

  -- as many entries; those of the indices in `used` differ in listed bits only
  pub record SameUsed (used : List ℕ) : Type 0 where
    pub many : length es ≡ length fs
    pub at : (i : ℕ) → i < length es → Memᴰ (suc i) used → Differ (EntryListed t (get_or es i [])) (get_or es i []) (get_or fs i [])

  pub meaning-same : {used : List ℕ} → SameUsed used → (k : ℕ) → Memᴰ k used → meaning_of t es k ≡ meaning_of t fs k
  unfolding meaning_of
  meaning-same u zero m = refl
  meaning-same u (suc i) m =
      rw (← u.many) (choose-same (ltb i (length es)) (λ e. rw (decode-same (u.at i (ltb-true _ _ e) m))) (λ e. refl))

-- the entries of two sgpd payloads with the same spans
module _ (t : ℕ) (used a b : List ℕ) (ba : Bytes a) (bb : Bytes b) (long : length a ≡ length b) where
  abbrev parts : List ℕ → List Span → List (List ℕ)
  parts s es = map (λ e. bytes_at s e) es

  contents-at : (k : ℕ) (es : List Span) → Contents (EntryMay t used a) k a b es → (i : ℕ) → i < length (parts a es) → Memᴰ (k + i) used
      → Differ (EntryListed t (get_or (parts a es) i [])) (get_or (parts a es) i []) (get_or (parts b es) i [])
  contents-at k [] c i h m = absurd (omega arith)
  contents-at k (e ∷ es) c zero h m =
      part-differ (EntryListed t (bytes_at a e)) a b e.place e.size ba bb long (λ j l. elim (c.0 j l) [
        | inl x ↦ inl x
        | inr (inl x) ↦ absurd (x (rw add-zero at m))
        | inr (inr x) ↦ inr x
      ])
  contents-at k (e ∷ es) c (suc i) h m = let d : k + suc i ≡ suc k + i = omega arith in contents-at (suc k) es c.1 i (omega arith) (rw d at m)

  pub entries-same : (es : List Span) → Contents (EntryMay t used a) 1 a b es → SameUsed t (parts a es) (parts b es) used
  entries-same es c =
      record {
        many = length-map es (λ e. bytes_at a e) ∙ sym (length-map es (λ e. bytes_at b e));
        at = λ i h m. let d : suc i ≡ 1 + i = omega arith in contents-at 1 es c i h (rw d at m);
      }
