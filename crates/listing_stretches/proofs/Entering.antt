-- A run entered, case by case: it joins the stretch in hand, begins the first one, or closes that in hand and begins another.
use mathlib.Core.Path.{◌≡◌, refl, ap, sym, ◌∙◌}
use mathlib.Core.List.{List, [], ◌∷◌, ◌++◌, append_assoc}
use Prim.Native.Nat.{ℕ, ◌+◌, ◌%◌, ◌^◌, ◌≤◌, ◌<◌}
use native.Mathlib.Nat.{zero-add, mod-lt, mod-le, mod-eq_of_lt}
use native.Mathlib.Decide.{dec_lt}
use native.Mathlib.Omega.{arith}
use lib.ListN.{length, get_or, length-append, set, length-set}
use lib.Seq.{get_or-set_same, get_or-set_other}
use borrow.Author.Tests.{lt-ltb}
use Rattle.base_fields.specs.Answer.{given}
use Rattle.base_fields.proofs.Answers.{given_inj}
use Rattle.group_sgpd.specs.Head.{ReadWhole}
use Rattle.group_sgpd.specs.declared.SgpdHead.{SgpdHead}
use Rattle.listing_theorem.specs.Meaning.{Meaning}
use Rattle.listing_theorem.specs.Groups.{groups}
use Rattle.listing_theorem.specs.Stretches.{Stretch}
use Rattle.listing_theorem.specs.Listing.{stretch_bytes, type_bytes, kind, field_bytes}
use Rattle.listing_theorem.proofs.Groups.{groups-some}
use Rattle.listing_numbers.specs.Store.{stored, Puts}
use Rattle.listing_numbers.proofs.Stores.{puts_then, number-near_64}
use Rattle.listing_meanings.specs.Meant.{meant_at, meaning_in, GivesMeaning, HasMeaning, Means}
use Rattle.listing_meanings.specs.declared.MeaningAt.{MeaningAt}
use Rattle.listing_meanings.specs.declared.MeaningAt.TheVariants as at
use Rattle.listing_meanings.proofs.Found.{meaning-is, entries-are}
use Rattle.listing_stretches.specs.Ahead.{bytes_ahead, meaning_or, Enters}
use Rattle.listing_stretches.specs.Entered.{InHand, meaning_by, GivesEntered, GivesBegun, GivesClosed, PutsStretch, joined_by, begun_with}
use Rattle.listing_stretches.specs.Memory.{Remembered, Keeps, kept_next}
use Rattle.listing_stretches.specs.declared.Progress.{Progress}
use Rattle.listing_stretches.proofs.Ahead.{ahead-join, ahead-first, ahead-close, ahead-last, ahead_none}

-- a stretch has bytes
stretch-some : (x : Stretch) → stretch_bytes x ≡ [] → ⊥
stretch-some x e =
    groups-some x.samples (groups (kind x.meaning) ++ field_bytes x.meaning)
    (sym (append_assoc (groups x.samples) (groups (kind x.meaning)) (field_bytes x.meaning)) ∙ e)

-- the memory of a new stretch
pub recalls-none : (m : ℕ → Meaning) (v : Meaning) (l : List ℕ) → length l ≡ 16 → Remembered m v 0 l
recalls-none m v l places = record { places = places; means = λ k h b. absurd (omega arith) }

-- an index that it keeps
pub keeps-means : (m : ℕ → Meaning) {v : Meaning} {kept i : ℕ} {l : List ℕ} → Remembered m v kept l → Keeps kept l i → m i ≡ v
keeps-means m all k = ap m (sym k.3) ∙ all.means k.0 k.1 k.2

next-near : {kept : ℕ} → kept < 16 → kept_next kept ≤ kept + 1
next-near {kept} h = simp (lt-ltb kept 31 (omega arith)) (omega arith)

-- one index more, in the place of number kept, which goes round
module _ (m : ℕ → Meaning) {v : Meaning} {kept i : ℕ} {l : List ℕ} (all : Remembered m v kept l) (e : m i ≡ v) where
  abbrev place : ℕ
  place = kept % 16

  pub recalls-more : Remembered m v (kept_next kept) (set l place i)
  recalls-more = record { places = simp length-set all.places; means = means }
    where
      means : (k : ℕ) → k < 16 → k < kept_next kept → m (get_or (set l place i) k 0) ≡ v
      means k h b =
          let low = mod-lt kept {m = 16} (omega arith) in
          let other : k < kept → (k ≡ place → ⊥) → m (get_or (set l place i) k 0) ≡ v = λ below d. rw (get_or-set_other l place k i 0 d) (all.means k h below) in
          elim (dec_lt k place) [
            | yes before ↦ other (omega (arith, mod-le kept 16)) (λ f. omega arith)
            | no behind ↦
                elim (dec_lt place k) [
                  | yes after ↦ other (elim (dec_lt kept 16) [
                    | yes few ↦ absurd (omega (arith, next-near few, mod-eq_of_lt few))
                    | no many ↦ omega arith
                  ]) (λ f. omega arith)
                  | no up_to ↦ let same : k ≡ place = omega arith in rw (same, get_or-set_same l place i 0 (omega (arith, all.places))) e
                ]
          ]

module _ (t : ℕ) (s : List ℕ) where
  -- the meaning of an index that has one
  pub known_by : {i : ℕ} → HasMeaning t s i → meaning_in t s i ≡ given (meaning_by t s i)
  known_by k = k.given ∙ ap given (ap meaning_or (sym k.given))

  module _ {h : SgpdHead} (w : ReadWhole s h) where
    pub meant-by : {i : ℕ} {r : MeaningAt} → GivesMeaning s i r → HasMeaning t s i → meant_at t s r ≡ given (meaning_by t s i)
    meant-by {i} g k = g.meant t _ (entries-are w i) ∙ sym (meaning-is w i t) ∙ known_by k

    pub means-by : {i : ℕ} {r : MeaningAt} → GivesMeaning s i r → HasMeaning t s i → Means t s r
    means-by {i} g k = record { inside = g.inside; meaning = meaning_by t s i; given = meant-by g k }

    -- an index whose meaning is told to be like that of the stretch in hand
    pub like-means : {p : Progress} {i : ℕ} {r : MeaningAt} → InHand t s p → GivesMeaning s i r → HasMeaning t s i → meant_at t s p.meaning ≡ meant_at t s r
        → meaning_by t s i ≡ meaning_by t s p.hand.index
    like-means held g known e = given_inj (sym (meant-by g known) ∙ sym e ∙ meant-by held.meant held.known)

    module _ (out : List ℕ) (p : Progress) (n i : ℕ) (some : 0 < n) (held : InHand t s p) (known : HasMeaning t s i) where
      -- the number of remembered indices does not matter
      pub enter-join : (kept : ℕ) → meaning_by t s i ≡ meaning_by t s p.hand.index → GivesEntered t s out out p n i (joined_by p n kept)
      unfolding stored
      enter-join kept e =
          record {
            held = record { meant = held.meant; known = held.known };
            written = [];
            output = refl;
            next = omega arith;
            bytes = λ rest. rw e (ahead-join p.hand.samples n (meaning_by t s p.hand.index) rest);
            joins = λ h e'. (e, refl, omega arith);
            samples = omega arith;
            near = omega arith;
          }

      pub enter-same : (kept : ℕ) → p.hand.index ≡ i → GivesEntered t s out out p n i (joined_by p n kept)
      enter-same kept e = enter-join kept (ap (meaning_by t s) (sym e))

      module _ {r : MeaningAt} (g : GivesMeaning s i r) where
        pub enter-first : p.hand.samples ≡ 0 → GivesEntered t s out out p n i (begun_with p.hand.at n i r)
        unfolding stored
        enter-first e =
            record {
              held = record { meant = g; known = known };
              written = [];
              output = refl;
              next = omega arith;
              bytes = λ rest. rw e (ahead-first n (meaning_by t s p.hand.index) (meaning_by t s i) rest);
              joins = λ h f. absurd (omega arith);
              samples = omega arith;
              near = omega arith;
            }

        pub enter-other : (meant_at t s p.meaning ≡ meant_at t s r → ⊥) → 0 < p.hand.samples → (after : List ℕ) (at : ℕ)
            → PutsStretch t s p.hand.samples p.meaning p.hand.at out after at → GivesEntered t s out after p n i (begun_with at n i r)
        enter-other d h after at q =
            let old = meaning_by t s p.hand.index in
            let put = q.puts old (meant-by held.meant held.known) in
            record {
              held = record { meant = g; known = known };
              written = stretch_bytes (record { samples = p.hand.samples; meaning = old });
              output = put.output;
              next = put.next;
              bytes = λ rest. ahead-close p.hand.samples n old (meaning_by t s i) rest h some
                  (λ e. d (meant-by held.meant held.known ∙ ap given e ∙ sym (meant-by g known)));
              joins = λ l f. absurd (stretch-some (record { samples = p.hand.samples; meaning = old }) f);
              samples = omega arith;
              near = q.near;
            }

  -- in places alone
  pub entered-enters : {before after : List ℕ} {p r : Progress} {n i : ℕ} → GivesEntered t s before after p n i r → Enters (meaning_by t s) p.hand n i r.hand
  entered-enters {p = p} {r} {n} {i} e =
      record {
        ends = λ rest. omega (arith, ap length (e.bytes rest), length-append e.written (bytes_ahead r.hand.samples (meaning_by t s r.hand.index) rest), e.next);
        lower = omega (arith, e.next);
        joins = λ h f. e.joins h (empty e.written (omega (arith, e.next)));
      }
    where
      empty : (l : List ℕ) → length l ≡ 0 → l ≡ []
      empty [] f = refl
      empty (x ∷ l) f = absurd (omega arith)

-- the beginning of a listing
pub begins : (t n : ℕ) (out typed after : List ℕ) (p q : ℕ) → Puts (type_bytes t) 0 out typed p → Puts (groups n) p typed after q → n < 2 ^ 64
    → GivesBegun t n out after (begun_with q 0 0 at.Outside)
begins t n out typed after p q a b small =
    let both = puts_then a b in
    record {
      output = both.output;
      hand = ap (λ x. begun_with x 0 0 at.Outside) (both.next ∙ zero-add _);
      near = omega (arith, number-near_64 n b small, a.next);
    }

-- and its end
module _ (t : ℕ) (s out : List ℕ) (p : Progress) where
  pub close-none : p.hand.samples ≡ 0 → GivesClosed t s out out p p.hand.at
  unfolding stored
  close-none e =
      let none : bytes_ahead p.hand.samples (meaning_by t s p.hand.index) [] ≡ [] = rw e (ahead_none _) in
      record { puts = record { output = rw none refl; next = rw none (omega arith) }; near = omega arith }

module _ (t : ℕ) (s : List ℕ) {h : SgpdHead} (w : ReadWhole s h) (out : List ℕ) (p : Progress) (held : InHand t s p) where
  pub close-some : 0 < p.hand.samples → (after : List ℕ) (r : ℕ) → PutsStretch t s p.hand.samples p.meaning p.hand.at out after r → GivesClosed t s out after p r
  close-some l after r q =
      record { puts = rw (ahead-last p.hand.samples (meaning_by t s p.hand.index) l) (q.puts _ (meant-by t s w held.meant held.known)); near = q.near }
