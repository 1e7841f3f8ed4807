-- A walk of the code over the ring, for the lookup.
use mathlib.Core.Path.{◌≡◌, refl, ap, sym, ◌∙◌}
use Prim.Native.Nat.{ℕ, zero, suc, ◌+◌, ◌-◌, ◌*◌, ◌%◌, ◌<◌, ◌≤◌}
use native.Mathlib.Omega.{arith}
use borrow.Author.Tests.{lt-ltb, le-ltb}
use mathlib.Core.List.{List}
use lib.Dec.{ltb}
use lib.ListN.{get_or}
use Rattle.base_fields.specs.Answer.{Answer, given, refused, choose}
use Rattle.use_fragment_queue.specs.Held.{Fragment, FragmentPlace, fragment_at}
use Rattle.use_fragment_queue.specs.Ring.{first_slot, held_count, slot, walk_slots, QueueMade}
use Rattle.use_fragment_queue.proofs.Lookup.{lookup-made}

walk_around : (q : List ℕ) (i i' n j k : ℕ) → i % 64 ≡ i' % 64 → walk_slots q i n j k ≡ walk_slots q i' n j k
unfolding walk_slots
walk_around q i i' zero j k e = refl
walk_around q i i' (suc n) j k e =
    rw (sym e) (ap (choose (ltb k (slot q (i % 64)).covered) (given (record { fragment = j; sample = k }))) (walk_around q (suc i) (suc i') n (suc j) (k - (slot q (i % 64)).covered) (omega arith)))

-- what is left of a walk over `count` slots
pub record Ahead (q : List ℕ) (first count sample at left j : ℕ) : Type 0 where
  pub inside : at < 64
  pub among : j ≤ count
  pub walks : walk_slots q first count 0 sample ≡ walk_slots q at (count - j) j left

module _ (q : List ℕ) (first count sample : ℕ) where
  pub ahead-start : first < 64 → Ahead q first count sample first sample 0
  ahead-start h = record { inside = h; among = omega arith; walks = let e : count - 0 ≡ count = omega arith in rw e refl }

  module _ {at left j : ℕ} (a : Ahead q first count sample at left j) where
    pub ahead-end : count ≤ j → walk_slots q first count 0 sample ≡ refused 73
    unfolding walk_slots
    ahead-end h = a.walks ∙ (let e : count - j ≡ 0 = omega arith in rw e refl)

    module _ (h : j < count) where
      one : walk_slots q first count 0 sample ≡ walk_slots q at (suc (count - suc j)) j left
      one = a.walks ∙ (let e : count - j ≡ suc (count - suc j) = omega arith in rw e refl)

      same-slot : at % 64 ≡ at
      same-slot = let b = a.inside in omega arith

      pub ahead-here : left < get_or q (4 + 2 * at) 0 → walk_slots q first count 0 sample ≡ given (record { fragment = j; sample = left })
      unfolding walk_slots
      ahead-here g = one ∙ rw (same-slot, lt-ltb left (get_or q (4 + 2 * at) 0) g) refl

      pub ahead-next : get_or q (4 + 2 * at) 0 ≤ left → Ahead q first count sample ((at + 1) % 64) (left - get_or q (4 + 2 * at) 0) (j + 1)
      unfolding walk_slots
      ahead-next g = record { inside = omega arith; among = omega arith; walks = one ∙ rw (same-slot, le-ltb left (get_or q (4 + 2 * at) 0) g, n) on }
        where
          n : suc j ≡ j + 1
          n = omega arith

          on : walk_slots q (suc at) (count - (j + 1)) (j + 1) (left - get_or q (4 + 2 * at) 0) ≡ walk_slots q ((at + 1) % 64) (count - (j + 1)) (j + 1) (left - get_or q (4 + 2 * at) 0)
          on = walk_around q (suc at) ((at + 1) % 64) (count - (j + 1)) (j + 1) (left - get_or q (4 + 2 * at) 0) (omega arith)

-- a walk from the first slot gives the lookup's answer
pub answers : {held : List Fragment} {q : List ℕ} (k : ℕ) {a : Answer FragmentPlace} → walk_slots q (first_slot q % 64) (held_count q) 0 k ≡ a → QueueMade held q → a ≡ fragment_at held k
answers {q = q} k w m = sym w ∙ walk_around q (first_slot q % 64) (first_slot q) (held_count q) 0 k (omega arith) ∙ lookup-made k m
