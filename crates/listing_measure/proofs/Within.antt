-- Within a pattern: what the samples so far did, run by run, and the periods that are passed.
use mathlib.Core.Path.{◌≡◌, refl, ap, sym, ◌∙◌}
use mathlib.Core.Logic.{⊎_elim}
use mathlib.Core.List.{List, ◌++◌}
use Prim.Native.Nat.{ℕ, ◌+◌, ◌-◌, ◌*◌, ◌≤◌, ◌<◌}
use native.Mathlib.Nat.{add-zero, zero-add}
use native.Mathlib.Omega.{arith}
use lib.ListN.{length, get_or, get_or-replicate}
use Rattle.table_rows.specs.Pattern.{Pattern, index_in, samples_from}
use Rattle.table_rows.proofs.Samples.{samples_from-at}
use Rattle.table_patterns.specs.Run.{GivesRun}
use Rattle.table_patterns.specs.declared.run.Run.{Run}
use Rattle.table_runs.specs.Patterns.{covered_limit}
use Rattle.listing_theorem.specs.Meaning.{Meaning}
use Rattle.listing_meanings.specs.Meant.{HasMeaning}
use Rattle.listing_stretches.specs.Ahead.{end_after, Moves}
use Rattle.listing_stretches.specs.Entered.{InHand, Recalls, meaning_by, GivesEntered}
use Rattle.listing_stretches.specs.Passed.{Passes, Later, Overlong}
use Rattle.listing_stretches.specs.declared.Hand.{Hand}
use Rattle.listing_stretches.specs.declared.Mark.{Mark}
use Rattle.listing_stretches.specs.declared.Progress.{Progress}
use Rattle.listing_stretches.proofs.Repeats.{moves-none, moves_then}
use Rattle.listing_stretches.proofs.Marks.{Marked, marked_new, moves-run, marked-run, passed-moves, passed-marked, passed_over, moves-over}
use Rattle.listing_stretches.proofs.Entering.{entered-enters}
use Rattle.listing_measure.specs.Measured.{PatternMeans, Measures, meanings_by}

-- the index of a run is that of its first sample
run_index : (p : Pattern) (k : ℕ) (r : Run) → GivesRun p k r → index_in p k ≡ r.index
run_index p k r g =
    sym (rw add-zero at (samples_from-at p k {n = r.count} {j = 0} g.some)) ∙ ap (λ l. get_or l 0 0) g.samples ∙ get_or-replicate r.count 0 r.index 0 g.some

-- n periods later the index in hand is the same, and no more samples than these came to it
later-index : (mark : Mark) (hand : Hand) (k size n : ℕ) (next : Hand) → Later mark hand k size n next → next.index ≡ hand.index
later-index mark hand k size n next = ⊎_elim (λ z. rw z.1 refl) (⊎_elim (λ l. rw l.1 refl) (λ l. rw l.1 refl))

later-samples : (mark : Mark) (hand : Hand) (k size n : ℕ) (next : Hand) → Later mark hand k size n next → next.samples ≤ hand.samples + n * size
later-samples mark hand k size n next = ⊎_elim (λ z. rw z.1 (omega arith)) (⊎_elim (λ l. rw l.1 (omega arith)) (λ l. rw l.1 (omega arith)))

module _ (t : ℕ) (s : List ℕ) (p : Pattern) (from : Progress) (limit : ℕ) where
  pub record Within (k : ℕ) (memory : List ℕ) (here : Progress) (mark : Mark) : Type 0 where
    pub held : InHand t s here
    pub alike : Recalls t s here memory
    pub passed : k ≤ p.count
    pub moves : Moves (meaning_by t s) p 0 k from.hand here.hand
    pub marked : Marked (meaning_by t s) p k here.hand mark
    pub near : here.hand.at ≤ limit
    pub samples : here.hand.samples ≤ from.hand.samples + k

  pub within_first : {memory : List ℕ} → InHand t s from → Recalls t s from memory → from.hand.at ≤ limit → Within 0 memory from (record { sample = 0; hand = from.hand })
  within_first held alike near =
      record {
        held = held;
        alike = alike;
        passed = omega arith;
        moves = moves-none (meaning_by t s) p 0 from.hand;
        marked = marked_new (meaning_by t s) p 0 from.hand;
        near = near;
        samples = omega arith;
      }

  pub within-last : {k : ℕ} {memory : List ℕ} {here : Progress} {mark : Mark} → Within k memory here mark → p.count ≤ k → Measures t s p from limit memory here
  within-last {k} w h =
      let e : k ≡ p.count = omega (arith, w.passed) in
      record { held = w.held; alike = w.alike; moves = rw e at w.moves; near = w.near; samples = omega (arith, w.samples) }

  -- the next run
  module _ (k : ℕ) {memory : List ℕ} (here : Progress) (mark : Mark) (w : Within k memory here mark) (r : Run) (g : GivesRun p k r) where
    pub run-means : PatternMeans t s p → HasMeaning t s r.index
    run-means all = rw (run_index p k r g) at (all k (omega (arith, g.some, g.within)))

    module _ (before after : List ℕ) (next : Progress) (e : GivesEntered t s before after here r.count r.index next) where
      abbrev m : ℕ → Meaning
      m = meaning_by t s

      to-run : Moves m p 0 (k + r.count) from.hand next.hand
      to-run =
          moves_then m p 0 k r.count from.hand here.hand next.hand w.moves
          (rw (zero-add k) (moves-run m p k r.count r.index here.hand next.hand g.samples (entered-enters t s e)))

      at-run : Marked m p (k + r.count) next.hand mark
      at-run = marked-run m p k r.count r.index here.hand next.hand g.samples (entered-enters t s e) mark w.marked

      -- it passes the limit
      pub over-run : limit < next.hand.at → (rest : List Meaning) → limit < end_after m from.hand (meanings_by t s (samples_from p 0 p.count) ++ rest)
      over-run h = moves-over m p (k + r.count) 0 p.count limit from.hand next.hand to-run (omega (arith, g.within)) (λ rest. omega (arith, h))

      pub pass-asks : from.hand.samples + p.count ≤ covered_limit → next.hand.at ≤ limit
          → (mark.sample ≤ k + r.count) × (k + r.count ≤ p.count) × (mark.hand.at ≤ next.hand.at) × (next.hand.samples ≤ covered_limit)
      pass-asks h l = (at-run.behind, g.within, at-run.lower, omega (arith, e.samples, w.samples, g.within))

      module _ (size : ℕ) (same : size ≡ length p.indices) where
        pub over-periods : Overlong mark next.hand (k + r.count) size p.count limit
            → (rest : List Meaning) → limit < end_after m from.hand (meanings_by t s (samples_from p 0 p.count) ++ rest)
        over-periods o =
            let q = rw same at o in
            moves-over m p (k + r.count) (q.periods * length p.indices) p.count limit from.hand next.hand to-run q.within
            (passed_over m p (k + r.count) next.hand mark at-run p.count limit q)

        pub within-next : {hand : Hand} {j : ℕ} {to : Mark} {later : List ℕ} → Passes mark next.hand (k + r.count) size p.count limit hand j to → Recalls t s next later
            → Within j later (record { hand = hand; meaning = next.meaning; kept = next.kept }) to
        within-next {hand} {j} {to} a alike =
            let q = rw same at a in
            let index = later-index mark next.hand (k + r.count) (length p.indices) q.periods hand q.later in
            let far : k + r.count + (j - (k + r.count)) ≡ j = omega (arith, q.sample) in
            record {
              held = record { meant = rw index e.held.meant; known = rw index e.held.known };
              alike = rw index alike;
              passed = omega (arith, q.sample, q.within);
              moves =
                  rw far at
                  (moves_then m p 0 (k + r.count) (j - (k + r.count)) from.hand next.hand hand to-run
                  (rw (zero-add (k + r.count)) (passed-moves m p (k + r.count) next.hand mark at-run p.count limit q)));
              marked = passed-marked m p (k + r.count) next.hand mark at-run p.count limit q;
              near = q.near;
              samples =
                  omega (arith, later-samples mark next.hand (k + r.count) (length p.indices) q.periods hand q.later, q.sample, e.samples, w.samples);
            }

        pub passes_on : {hand : Hand} {j : ℕ} {to : Mark} → Passes mark next.hand (k + r.count) size p.count limit hand j to → k < j
        passes_on a = omega (arith, a.sample, g.some)
