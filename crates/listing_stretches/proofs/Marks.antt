-- The mark of a pattern's replay: what the samples since then did to the stretch in hand, through runs and passed periods.
use mathlib.Core.Path.{◌≡◌, refl, ap, ◌∙◌}
use mathlib.Core.Logic.{⊎_elim}
use mathlib.Core.List.{List, ◌∷◌, ◌++◌, map, append_assoc}
use Prim.Native.Nat.{ℕ, zero, suc, ◌+◌, ◌-◌, ◌*◌, ◌≤◌, ◌<◌}
use native.Mathlib.Nat.{sub_self, zero-mul, add-zero, zero-add}
use native.Mathlib.Omega.{arith}
use lib.ListN.{length, replicate, replicate-append-replicate}
use Rattle.table_rows.specs.Pattern.{Pattern, samples_from}
use Rattle.table_rows.proofs.Samples.{samples_from-add}
use Rattle.listing_theorem.specs.Meaning.{Meaning}
use Rattle.listing_stretches.specs.Ahead.{end_after, Moves, Enters}
use Rattle.listing_stretches.specs.Passed.{Passes, Later, Overlong, LikePeriod, JoinedPeriod, repeated, lengthened}
use Rattle.listing_stretches.specs.declared.Hand.{Hand}
use Rattle.listing_stretches.specs.declared.Mark.{Mark}
use Rattle.listing_stretches.proofs.Repeats.{map_append, moves-none, moves_then, moves-periods, moves-alike}

pub map-replicate : {A B : Type 0} (f : A → B) (n : ℕ) (x : A) → map f (replicate n x) ≡ replicate n (f x)
map-replicate f zero x = refl
map-replicate f (suc n) x = ap (λ l. f x ∷ l) (map-replicate f n x)

module _ (m : ℕ → Meaning) (p : Pattern) where
  -- the samples since the mark all joined the stretch that was in hand there
  pub record Joined (k : ℕ) (hand : Hand) (mark : Mark) : Type 0 where
    pub all : map m (samples_from p mark.sample (k - mark.sample)) ≡ replicate (k - mark.sample) (m mark.hand.index)
    pub index : hand.index ≡ mark.hand.index
    pub some : 0 < hand.samples

  pub record Marked (k : ℕ) (hand : Hand) (mark : Mark) : Type 0 where
    pub behind : mark.sample ≤ k
    pub lower : mark.hand.at ≤ hand.at
    pub since : Moves m p mark.sample (k - mark.sample) mark.hand hand
    pub joined : 0 < mark.hand.samples → hand.at ≡ mark.hand.at → Joined k hand mark

  pub marked_new : (k : ℕ) (hand : Hand) → Marked k hand (record { sample = k; hand = hand })
  unfolding samples_from
  marked_new k hand =
      record {
        behind = omega arith;
        lower = omega arith;
        since = λ rest. rw (sub_self k) refl;
        joined = λ h e. record { all = rw (sub_self k) refl; index = refl; some = h };
      }

  -- a run of the pattern's samples
  module _ (k n i : ℕ) (hand next : Hand) (run : samples_from p k n ≡ replicate n i) (e : Enters m hand n i next) where
    pub moves-run : Moves m p k n hand next
    moves-run rest = rw (run, map-replicate m n i) (e.ends rest)

    pub marked-run : (mark : Mark) → Marked k hand mark → Marked (k + n) next mark
    marked-run mark w =
        let far : k + n - mark.sample ≡ (k - mark.sample) + n = omega (arith, w.behind) in
        let here : mark.sample + (k - mark.sample) ≡ k = omega (arith, w.behind) in
        record {
          behind = omega (arith, w.behind);
          lower = omega (arith, w.lower, e.lower);
          since = rw far (moves_then m p mark.sample (k - mark.sample) n mark.hand hand next w.since (rw here moves-run));
          joined = λ h at.
              let j = w.joined h (omega (arith, w.lower, e.lower)) in
              let r = e.joins j.some (omega (arith, w.lower, e.lower)) in
              record {
                all =
                    rw (
                      far,
                      samples_from-add p mark.sample (k - mark.sample) n,
                      map_append,
                      here,
                      j.all,
                      run,
                      map-replicate m n i,
                      r.0,
                      j.index,
                      replicate-append-replicate (k - mark.sample) n (m mark.hand.index),
                    )
                    refl;
                index = r.1 ∙ j.index;
                some = r.2;
              };
        }

  -- whole periods
  module _ (k : ℕ) (hand : Hand) (mark : Mark) (w : Marked k hand mark) where
    like-periods : (n : ℕ) → LikePeriod mark hand k (length p.indices)
        → Moves m p k (n * length p.indices) hand (repeated hand (hand.at - mark.hand.at) n)
    like-periods n l =
        let size : k - mark.sample ≡ length p.indices = omega (arith, l.period) in
        rw l.period (moves-periods m p mark.sample mark.hand hand n w.lower l.samples l.index (rw size at w.since))

    joined-periods : (n : ℕ) → JoinedPeriod mark hand k (length p.indices)
        → Moves m p k (n * length p.indices) hand (lengthened hand (length p.indices) n)
    joined-periods n l =
        let size : k - mark.sample ≡ length p.indices = omega (arith, l.period) in
        let j = w.joined l.some l.at in
        rw l.period (moves-alike m p mark.sample hand n (rw j.index (rw size at j.all)))

    later-moves : (n : ℕ) (next : Hand) → Later mark hand k (length p.indices) n next → Moves m p k (n * length p.indices) hand next
    later-moves n next =
        ⊎_elim (λ z. rw (z.0, z.1, zero-mul) (moves-none m p k hand))
        (⊎_elim (λ l. rw l.1 (like-periods n l.0)) (λ l. rw l.1 (joined-periods n l.0)))

    module _ (count limit : ℕ) where
      pub passed-moves : {next : Hand} {j : ℕ} {to : Mark} → Passes mark hand k (length p.indices) count limit next j to → Moves m p k (j - k) hand next
      passed-moves {next} {j} q =
          let n : j - k ≡ q.periods * length p.indices = omega (arith, q.sample) in
          rw n (later-moves q.periods next q.later)

      pub passed-marked : {next : Hand} {j : ℕ} {to : Mark} → Passes mark hand k (length p.indices) count limit next j to → Marked j next to
      passed-marked {next} {j} {to} q =
          ⊎_elim
          (λ z. let e : j ≡ k = rw (z.0, zero-mul, add-zero) at q.sample in rw (e, z.1, z.2) w)
          (λ z. rw z (marked_new j next)) q.marks

      pub passed_over : (o : Overlong mark hand k (length p.indices) count limit) (rest : List Meaning)
          → limit < end_after m hand (map m (samples_from p k (o.periods * length p.indices)) ++ rest)
      passed_over o rest = omega (arith, like-periods o.periods o.like rest, o.over)

  -- what the output passes behind some samples, it passes behind all of them
  pub moves-over : (j a count limit : ℕ) (h next : Hand) → Moves m p 0 j h next → j + a ≤ count
      → ((rest : List Meaning) → limit < end_after m next (map m (samples_from p j a) ++ rest))
      → (rest : List Meaning) → limit < end_after m h (map m (samples_from p 0 count) ++ rest)
  moves-over j a count limit h next move within over rest =
      let b = count - (j + a) in
      let size : count ≡ j + (a + b) = omega arith in
      rw (size, samples_from-add p 0 j (a + b), map_append, append_assoc)
      (omega (arith, move (map m (samples_from p (0 + j) (a + b)) ++ rest), tail b))
    where
      tail : (b : ℕ) → limit < end_after m next (map m (samples_from p (0 + j) (a + b)) ++ rest)
      tail b = rw (zero-add j, samples_from-add p j a b, map_append, append_assoc) (over (map m (samples_from p (j + a) b) ++ rest))
