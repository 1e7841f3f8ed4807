-- Row by row: what is stored, and what is still to be stored behind it, is the listing.
use mathlib.Core.Path.{◌≡◌, refl, sym, ◌∙◌}
use mathlib.Core.List.{List, [], ◌∷◌, ◌++◌}
use Prim.Native.Nat.{ℕ, ◌+◌, ◌-◌, ◌≤◌, ◌<◌}
use native.Mathlib.Nat.{zero-add}
use native.Mathlib.Omega.{arith}
use lib.ListN.{length, replicate, length-append}
use borrow.Author.Tests.{lt-ltb, le-ltb}
use Rattle.group_sgpd.specs.Head.{ReadWhole}
use Rattle.group_sgpd.specs.declared.SgpdHead.{SgpdHead}
use Rattle.table_rows.specs.Row.{Row, covered, index_at, expand}
use Rattle.table_rows.proofs.Samples.{covered-expand}
use Rattle.table_runs.specs.Patterns.{covered_limit}
use Rattle.listing_theorem.specs.Groups.{groups}
use Rattle.listing_theorem.specs.Listing.{type_bytes}
use Rattle.listing_numbers.specs.Store.{stored, Puts}
use Rattle.listing_numbers.proofs.Stores.{stored_append}
use Rattle.listing_meanings.specs.Meant.{HasMeaning}
use Rattle.listing_stretches.specs.Ahead.{bytes_ahead}
use Rattle.listing_stretches.specs.Entered.{InHand, Recalls, meaning_by, GivesEntered, GivesBegun, GivesClosed}
use Rattle.listing_stretches.specs.declared.Progress.{Progress}
use Rattle.listing_stretches.proofs.Entering.{recalls-none}
use Rattle.listing_stretches.proofs.Repeats.{map_append}
use Rattle.listing_stretches.proofs.Marks.{map-replicate}
use Rattle.listing_measure.specs.Measured.{meanings_by}
use Rattle.listing_measure.proofs.Through.{held_first, listing_begins}
use Rattle.listing_cue.specs.Rows.{RowsMean, row_listing}

module _ (t : ℕ) (s : List ℕ) where
  -- what is still to be stored, where the rows rs follow
  abbrev pub to_come : Progress → List Row → List ℕ
  to_come p rs = bytes_ahead p.hand.samples (meaning_by t s p.hand.index) (meanings_by t s (expand rs))

  -- the listing behind what it begins with
  module _ (all : List Row) (n : ℕ) (count : n ≡ covered all) {out after : List ℕ} {r : Progress} (b : GivesBegun t n out after r) where
    front : row_listing t s all ≡ (type_bytes t ++ groups n) ++ bytes_ahead 0 (meaning_by t s 0) (meanings_by t s (expand all))
    front = let e : n ≡ length (expand all) = count ∙ covered-expand all in listing_begins t s (expand all) ∙ rw (← e) refl

    pub begun-bytes : stored (row_listing t s all) 0 out ≡ stored (to_come r all) r.hand.at after
    begun-bytes =
        rw (
          b.hand,
          front,
          stored_append (type_bytes t ++ groups n) (bytes_ahead 0 (meaning_by t s 0) (meanings_by t s (expand all))) 0 out,
          zero-add (length (type_bytes t ++ groups n)),
          ← b.output,
        )
        refl

    pub begun-ends : r.hand.at + length (to_come r all) ≡ length (row_listing t s all)
    begun-ends = rw (b.hand, front) (sym (length-append (type_bytes t ++ groups n) (bytes_ahead 0 (meaning_by t s 0) (meanings_by t s (expand all)))))

  -- from what was in hand at the start and the output there
  module _ (all : List Row) (start : Progress) (out : List ℕ) where
    pub record Writing (rs : List Row) (memory : List ℕ) (here : Progress) (now : List ℕ) : Type 0 where
      pub bytes : stored (to_come start all) start.hand.at out ≡ stored (to_come here rs) here.hand.at now
      pub ends : here.hand.at + length (to_come here rs) ≡ start.hand.at + length (to_come start all)
      pub held : InHand t s here
      pub alike : Recalls t s here memory
      pub mean : RowsMean t s rs
      pub samples : here.hand.samples + covered rs ≤ covered_limit

    pub writing-first : {h : SgpdHead} → ReadWhole s h → (n : ℕ) → n ≡ covered all → n ≤ covered_limit → RowsMean t s all → {before : List ℕ} → GivesBegun t n before out start
        → {memory : List ℕ} → length memory ≡ 16 → Writing all memory start out
    writing-first w n count small mean b places =
        record {
          bytes = refl;
          ends = refl;
          held = rw b.hand (held_first t s w (length (type_bytes t ++ groups n)));
          alike = rw b.hand (recalls-none _ _ _ places);
          mean = mean;
          samples = rw b.hand (omega (arith, count, small));
        }

    module _ (r : Row) (rs : List Row) {memory : List ℕ} (here : Progress) (now : List ℕ) (x : Writing (r ∷ rs) memory here now) where
      pub row-means : 0 < r.count → HasMeaning t s r.index
      unfolding covered index_at
      row-means h = rw (lt-ltb 0 r.count h) at (x.mean 0 (omega arith))

      pub row_fits : here.hand.samples + r.count ≤ covered_limit
      unfolding covered
      row_fits = omega (arith, x.samples)

      rest-mean : RowsMean t s rs
      unfolding covered index_at
      rest-mean k h =
          let j = r.count + k in
          let back : j - r.count ≡ k = omega arith in
          rw back at (rw (le-ltb j r.count (omega arith)) at (x.mean j (omega arith)))

      row_then : meanings_by t s (expand (r ∷ rs)) ≡ replicate r.count (meaning_by t s r.index) ++ meanings_by t s (expand rs)
      unfolding expand
      row_then = map_append (meaning_by t s) (replicate r.count r.index) (expand rs) ∙ rw (map-replicate (meaning_by t s) r.count r.index) refl

      -- a row of no samples
      pub writing-none : r.count ≡ 0 → Writing rs memory here now
      unfolding covered
      writing-none e =
          let same : meanings_by t s (expand (r ∷ rs)) ≡ meanings_by t s (expand rs) = row_then ∙ rw e refl in
          record { bytes = x.bytes ∙ rw same refl; ends = rw (← same) x.ends; held = x.held; alike = x.alike; mean = rest-mean; samples = omega (arith, x.samples) }

      pub writing-next : {after later : List ℕ} {next : Progress} → GivesEntered t s now after here r.count r.index next → Recalls t s next later → Writing rs later next after
      unfolding covered
      writing-next {next = next} g alike =
          let come : to_come here (r ∷ rs) ≡ g.written ++ to_come next rs = rw row_then (g.bytes (meanings_by t s (expand rs))) in
          record {
            bytes = x.bytes ∙ rw come (stored_append g.written (to_come next rs) here.hand.at now ∙ rw (← g.next, ← g.output) refl);
            ends = omega (arith, rw come at x.ends, length-append g.written (to_come next rs), g.next);
            held = g.held;
            alike = alike;
            mean = rest-mean;
            samples = omega (arith, g.samples, x.samples);
          }

    -- the last stretch
    pub writing-last : {memory : List ℕ} (here : Progress) (now : List ℕ) → Writing [] memory here now → {after : List ℕ} {r : ℕ} → GivesClosed t s now after here r → Puts (to_come start all) start.hand.at out after r
    unfolding expand
    writing-last here now x g = record { output = g.puts.output ∙ sym x.bytes; next = omega (arith, g.puts.next, x.ends) }
