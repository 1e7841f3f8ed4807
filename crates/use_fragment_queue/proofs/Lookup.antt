-- The lookup over the ring is the one over the fragments held, and names the fragment that covers the sample.
use mathlib.Core.Path.{◌≡◌, refl, ap, ◌∙◌}
use Prim.Native.Nat.{ℕ, zero, suc, ◌+◌, ◌-◌, ◌%◌, ◌<◌, ◌≤◌}
use native.Mathlib.Nat.{add-zero}
use native.Mathlib.Omega.{arith}
use native.Mathlib.Decide.{dec_lt}
use borrow.Author.Tests.{lt-ltb, le-ltb}
use mathlib.Core.List.{List, [], ◌∷◌}
use lib.ListN.{length, take}
use Rattle.base_fields.specs.Answer.{Answer, given, none, refused, and_then}
use Rattle.use_fragment_queue.specs.Held.{Fragment, covered_held, FragmentPlace, next_fragment, fragment_at}
use Rattle.use_fragment_queue.specs.Ring.{first_slot, held_count, slot, ring, walk_slots, QueueMade}

-- a place counted from fragment j on
abbrev onward : ℕ → FragmentPlace → Answer FragmentPlace
onward j p = given (record { fragment = j + p.fragment; sample = p.sample })

onward-later : (j : ℕ) (a : Answer FragmentPlace) → and_then a (onward (suc j)) ≡ and_then (and_then a next_fragment) (onward j)
onward-later j (given p) = λ t. given (record { fragment = e t; sample = p.sample })
  where
    e : suc j + p.fragment ≡ j + suc p.fragment
    e = omega arith
onward-later j none = refl
onward-later j (refused n) = refl

pub walk-ring : (q : List ℕ) (i n j k : ℕ) → walk_slots q i n j k ≡ and_then (fragment_at (ring q i n) k) (onward j)
unfolding walk_slots ring fragment_at
walk-ring q i zero j k = refl
walk-ring q i (suc n) j k =
    let c = (slot q (i % 64)).covered in
    elim (dec_lt k c) [
      | yes h ↦ rw (lt-ltb k c h, add-zero j) refl
      | no h ↦
          rw (le-ltb k c (omega arith))
          (walk-ring q (suc i) n (suc j) (k - c) ∙ onward-later j (fragment_at (ring q (suc i) n) (k - c)))
    ]

onward-none : (a : Answer FragmentPlace) → and_then a (onward 0) ≡ a
onward-none (given p) = λ t. given (record { fragment = e t; sample = p.sample })
  where
    e : 0 + p.fragment ≡ p.fragment
    e = omega arith
onward-none none = refl
onward-none (refused n) = refl

pub lookup-made : {held : List Fragment} {q : List ℕ} (k : ℕ) → QueueMade held q → walk_slots q (first_slot q) (held_count q) 0 k ≡ fragment_at held k
lookup-made {held} {q} k m =
    walk-ring q (first_slot q) (held_count q) 0 k ∙ onward-none (fragment_at (ring q (first_slot q) (held_count q)) k) ∙ ap (λ (l : List Fragment). fragment_at l k) m.reads

-- what the definition means: the fragment named covers the sample, and a sample that none covers is turned away
pub record Covers (held : List Fragment) (k : ℕ) (p : FragmentPlace) : Type 0 where
  pub held_one : p.fragment < length held
  pub counted : covered_held (take p.fragment held) + p.sample ≡ k
  pub inside : k < covered_held (take (suc p.fragment) held)

covers-later : (f : Fragment) (fs : List Fragment) (k : ℕ) (p : FragmentPlace) → f.covered ≤ k → Covers fs (k - f.covered) p
    → Covers (f ∷ fs) k (record { fragment = suc p.fragment; sample = p.sample })
unfolding covered_held
covers-later f fs k p h c = record { held_one = omega (arith, c.held_one); counted = omega (arith, c.counted); inside = omega (arith, c.inside) }

pub place-covers : (held : List Fragment) (k : ℕ) → k < covered_held held → (p : FragmentPlace) × ((fragment_at held k ≡ given p) × Covers held k p)
unfolding covered_held fragment_at
place-covers [] k h = absurd (omega arith)
place-covers (f ∷ fs) k h =
    elim (dec_lt k f.covered) [
      | yes l ↦ (record { fragment = 0; sample = k }, (rw (lt-ltb k f.covered l) refl, record { held_one = omega arith; counted = omega arith; inside = omega arith }))
      | no l ↦
          let g : f.covered ≤ k = omega arith in
          let r = place-covers fs (k - f.covered) (omega arith) in
          (record { fragment = suc r.0.fragment; sample = r.0.sample }, (rw (le-ltb k f.covered g, r.1.0) refl, covers-later f fs k r.0 g r.1.1))
    ]

pub place_none : (held : List Fragment) (k : ℕ) → covered_held held ≤ k → fragment_at held k ≡ refused 73
unfolding covered_held fragment_at
place_none [] k h = refl
place_none (f ∷ fs) k h = rw (le-ltb k f.covered (omega arith), place_none fs (k - f.covered) (omega arith)) refl
