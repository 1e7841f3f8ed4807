-- Through a table's patterns: the listing ends where what is in hand and the samples ahead make it end.
use mathlib.Core.Path.{◌≡◌, refl, ap, sym, ◌∙◌}
use mathlib.Core.List.{List, [], ◌∷◌, ◌++◌, map}
use Prim.Native.Nat.{ℕ, suc, ◌+◌, ◌≤◌, ◌<◌}
use native.Mathlib.Omega.{arith}
use lib.ListN.{length, length-append}
use Rattle.group_sgpd.specs.Head.{ReadWhole}
use Rattle.group_sgpd.specs.declared.SgpdHead.{SgpdHead}
use Rattle.table_rows.specs.Pattern.{Pattern, samples_from, samples_of, covered_by}
use Rattle.table_rows.proofs.Samples.{covered_by-samples}
use Rattle.table_runs.specs.Patterns.{covered_limit}
use Rattle.listing_theorem.specs.Groups.{groups}
use Rattle.listing_theorem.specs.Listing.{type_bytes, listing}
use Rattle.listing_meanings.specs.declared.MeaningAt.TheVariants as at
use Rattle.listing_meanings.proofs.Found.{gives-outside, has-outside}
use Rattle.listing_stretches.specs.Ahead.{bytes_ahead, end_after}
use Rattle.listing_stretches.specs.Entered.{InHand, Recalls, meaning_by, GivesBegun, begun_with}
use Rattle.listing_stretches.specs.declared.Progress.{Progress}
use Rattle.listing_stretches.proofs.Ahead.{listing-ahead}
use Rattle.listing_stretches.proofs.Entering.{recalls-none}
use Rattle.listing_stretches.proofs.Repeats.{map_append}
use Rattle.std.specs.Prelude.{Option, Some, None}
use Rattle.listing_measure.specs.Measured.{AllMean, Measures, meanings_by, listing_of, GivesMeasuring, GivesEnd, GivesLength}
use Rattle.listing_measure.proofs.Meant.{mean-rest}

pub map-length : {A B : Type 0} (f : A → B) (l : List A) → length (map f l) ≡ length l
map-length f [] = refl
map-length f (x ∷ l) = ap suc (map-length f l)

-- nothing in hand has the meaning of index 0
pub held_first : (t : ℕ) (s : List ℕ) {h : SgpdHead} → ReadWhole s h → (n : ℕ) → InHand t s (begun_with n 0 0 at.Outside)
held_first t s w n = record { meant = gives-outside w 0 refl; known = has-outside w 0 t refl }

-- a listing by what it begins with
pub listing_begins : (t : ℕ) (s : List ℕ) (l : List ℕ) → listing t (meanings_by t s l) ≡ (type_bytes t ++ groups (length l)) ++ bytes_ahead 0 (meaning_by t s 0) (meanings_by t s l)
listing_begins t s l = listing-ahead t (meaning_by t s 0) (meanings_by t s l) ∙ rw (map-length (meaning_by t s) l) refl

module _ (t : ℕ) (s : List ℕ) (all : List Pattern) (limit : ℕ) where
  pub record Through (ahead : List Pattern) (memory : List ℕ) (here : Progress) : Type 0 where
    pub ends : length (listing_of t s all) ≡ end_after (meaning_by t s) here.hand (meanings_by t s (samples_of ahead))
    pub near : here.hand.at ≤ limit
    pub held : InHand t s here
    pub alike : Recalls t s here memory
    pub mean : AllMean t s ahead
    pub samples : here.hand.samples + covered_by ahead ≤ covered_limit

  module _ (n : ℕ) (count : n ≡ covered_by all) {before after : List ℕ} {r : Progress} (b : GivesBegun t n before after r) where
    ends-first : length (listing_of t s all) ≡ end_after (meaning_by t s) r.hand (meanings_by t s (samples_of all))
    ends-first =
        let e : n ≡ length (samples_of all) = count ∙ covered_by-samples all in
        rw (b.hand, listing_begins t s (samples_of all), ← e)
        (omega (arith, length-append (type_bytes t ++ groups n) (bytes_ahead 0 (meaning_by t s 0) (meanings_by t s (samples_of all)))))

    pub over_first : limit < r.hand.at → limit < length (listing_of t s all)
    over_first h = omega (arith, ends-first, h)

    pub through-first : {h : SgpdHead} → ReadWhole s h → AllMean t s all → n ≤ covered_limit → r.hand.at ≤ limit → {memory : List ℕ} → length memory ≡ 16 → Through all memory r
    through-first w mean small near places =
        record {
          ends = ends-first;
          near = near;
          held = rw b.hand (held_first t s w _);
          alike = rw b.hand (recalls-none _ _ _ places);
          mean = mean;
          samples = rw b.hand (omega (arith, count, small));
        }

  module _ (p : Pattern) (ahead : List Pattern) {memory : List ℕ} (here : Progress) (x : Through (p ∷ ahead) memory here) where
    -- the samples of the first pattern, then the others
    first_then : meanings_by t s (samples_of (p ∷ ahead)) ≡ meanings_by t s (samples_from p 0 p.count) ++ meanings_by t s (samples_of ahead)
    unfolding samples_of
    first_then = map_append (meaning_by t s) (samples_from p 0 p.count) (samples_of ahead)

    pub first_fits : here.hand.samples + p.count ≤ covered_limit
    unfolding covered_by
    first_fits = omega (arith, x.samples)

    pub over-next : GivesMeasuring t s p here limit memory None → limit < length (listing_of t s all)
    over-next g = rw (x.ends, first_then) (g (meanings_by t s (samples_of ahead)))

    pub through-next : {later : List ℕ} {next : Progress} → Measures t s p here limit later next → Through ahead later next
    unfolding covered_by
    through-next m =
        record {
          ends = x.ends ∙ rw first_then (m.moves (meanings_by t s (samples_of ahead)));
          near = m.near;
          held = m.held;
          alike = m.alike;
          mean = mean-rest t s p ahead x.mean;
          samples = omega (arith, m.samples, x.samples);
        }

  pub through-end : {memory : List ℕ} (here : Progress) → Through [] memory here → (r : Option ℕ) → GivesEnd t s here limit r → GivesLength t s all limit r
  unfolding samples_of
  through-end here x (Some n) g = (g.0 ∙ sym x.ends, g.1)
  through-end here x None g = rw x.ends g
