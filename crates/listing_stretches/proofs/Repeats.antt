-- Whole periods of a pattern in one step: one that leaves the stretch in hand as it found it adds as many bytes as the next; one of a single
-- meaning only lengthens the stretch.
use mathlib.Core.Path.{◌≡◌, refl, ap, ◌∙◌}
use mathlib.Core.List.{List, [], ◌∷◌, ◌++◌, map, append_assoc}
use Prim.Native.Nat.{ℕ, zero, suc, ◌+◌, ◌-◌, ◌*◌, ◌≤◌}
use native.Mathlib.Nat.{suc-mul, zero-mul}
use native.Mathlib.Omega.{arith}
use lib.ListN.{length, replicate, replicate-append-replicate}
use Rattle.table_rows.specs.Pattern.{Pattern, samples_from}
use Rattle.table_rows.proofs.Samples.{samples_from-add}
use Rattle.table_replay.proofs.Repeating.{samples-again}
use Rattle.listing_theorem.specs.Meaning.{Meaning}
use Rattle.listing_stretches.specs.Ahead.{bytes_ahead, Moves}
use Rattle.listing_stretches.specs.Passed.{repeated, lengthened}
use Rattle.listing_stretches.specs.declared.Hand.{Hand}
use Rattle.listing_stretches.proofs.Ahead.{ahead-join}

pub map_append : {A B : Type 0} (f : A → B) (a b : List A) → map f (a ++ b) ≡ map f a ++ map f b
map_append f [] b = refl
map_append f (x ∷ a) b = ap (λ l. f x ∷ l) (map_append f a b)

module _ (m : ℕ → Meaning) (p : Pattern) where
  pub moves-none : (k : ℕ) (h : Hand) → Moves m p k 0 h h
  unfolding samples_from
  moves-none k h rest = refl

  pub moves_then : (k a b : ℕ) (x y z : Hand) → Moves m p k a x y → Moves m p (k + a) b y z → Moves m p k (a + b) x z
  moves_then k a b x y z f g rest =
      rw (samples_from-add p k a b, map_append, append_assoc) (f (map m (samples_from p (k + a) b) ++ rest) ∙ g rest)

  module _ (k : ℕ) where
    -- one period more in front
    period : (n : ℕ) → samples_from p k (suc n * length p.indices) ≡ samples_from p k (length p.indices) ++ samples_from p k (n * length p.indices)
    period n =
        ap (samples_from p k) (omega (arith, suc-mul n (length p.indices)))
        ∙ samples_from-add p k (length p.indices) (n * length p.indices)
        ∙ rw (samples-again p k (n * length p.indices))

    -- a period that adds d bytes to the output and leaves the stretch in hand as it was
    module _ (c i d : ℕ) (once : (rest : List Meaning) →
        length (bytes_ahead c (m i) (map m (samples_from p k (length p.indices)) ++ rest)) ≡ d + length (bytes_ahead c (m i) rest)) where
      periods : (n : ℕ) (rest : List Meaning)
          → length (bytes_ahead c (m i) (map m (samples_from p k (n * length p.indices)) ++ rest)) ≡ n * d + length (bytes_ahead c (m i) rest)
      unfolding samples_from
      periods zero rest = rw (zero-mul, zero-mul) (omega arith)
      periods (suc n) rest =
          rw (period n, map_append, append_assoc)
          (once (map m (samples_from p k (n * length p.indices)) ++ rest) ∙ rw (periods n rest) (omega (arith, suc-mul n d)))

    pub moves-periods : (h g : Hand) (n : ℕ) → h.at ≤ g.at → g.samples ≡ h.samples → g.index ≡ h.index → Moves m p k (length p.indices) h g
        → Moves m p (k + length p.indices) (n * length p.indices) g (repeated g (g.at - h.at) n)
    moves-periods h g n low e f once rest =
        let one = periods g.samples g.index (g.at - h.at) (λ rest. rw (e, f) (omega (arith, rw (e, f) at (once rest)))) n rest in
        rw (samples-again p k (n * length p.indices)) (omega (arith, one))

    -- a period of one meaning
    alike : (i n : ℕ) → map m (samples_from p k (length p.indices)) ≡ replicate (length p.indices) (m i)
        → map m (samples_from p k (n * length p.indices)) ≡ replicate (n * length p.indices) (m i)
    unfolding samples_from
    alike i zero e = rw (zero-mul) refl
    alike i (suc n) e =
        let size : length p.indices + n * length p.indices ≡ suc n * length p.indices = omega (arith, suc-mul n (length p.indices)) in
        rw (period n, map_append, e, alike i n e, replicate-append-replicate (length p.indices) (n * length p.indices) (m i), size)

    pub moves-alike : (h : Hand) (n : ℕ) → map m (samples_from p k (length p.indices)) ≡ replicate (length p.indices) (m h.index)
        → Moves m p (k + length p.indices) (n * length p.indices) h (lengthened h (length p.indices) n)
    moves-alike h n e rest =
        rw (samples-again p k (n * length p.indices), alike h.index n e, ahead-join h.samples (n * length p.indices) (m h.index) rest) refl
