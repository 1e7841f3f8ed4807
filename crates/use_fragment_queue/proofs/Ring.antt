-- Slots read in ring order, after one is written.
use mathlib.Core.Path.{◌≡◌, refl, ap, ◌∙◌}
use Prim.Native.Nat.{ℕ, zero, suc, ◌+◌, ◌-◌, ◌*◌, ◌%◌, ◌<◌, ◌≤◌}
use native.Mathlib.Nat.{add-zero}
use native.Mathlib.Omega.{arith}
use mathlib.Core.List.{List, [], ◌∷◌, ◌++◌}
use lib.ListN.{length, get_or, set, length-set}
use lib.Seq.{get_or-set_same, get_or-set_other}
use Rattle.use_fragment_queue.specs.Held.{Fragment}
use Rattle.use_fragment_queue.specs.Ring.{held_count, covered_sum_of, member_sum, slot, set_slot, set_sums, ring}

-- a fragment is its two numbers
pub same-fragment : {a b c d : ℕ} → a ≡ b → c ≡ d → ◌≡◌ {A = Fragment} (record { covered = a; members = c }) (record { covered = b; members = d })
same-fragment p q t = record { covered = p t; members = q t }

module _ (q : List ℕ) (i : ℕ) (f : Fragment) where
  pub slot_same : 5 + 2 * i < length q → slot (set_slot q i f) i ≡ f
  slot_same h =
      let l = set q (4 + 2 * i) f.covered in
      same-fragment
      (get_or-set_other l (5 + 2 * i) (4 + 2 * i) f.members 0 (λ e. omega arith) ∙ get_or-set_same q (4 + 2 * i) f.covered 0 (omega arith))
      (get_or-set_same l (5 + 2 * i) f.members 0 (rw (length-set q (4 + 2 * i) f.covered) h))

  pub slot-other : (j : ℕ) → (j ≡ i → ⊥) → slot (set_slot q i f) j ≡ slot q j
  slot-other j h =
      same-fragment
      (slot_beside (4 + 2 * j) (λ e. h (omega arith)) (λ e. omega arith))
      (slot_beside (5 + 2 * j) (λ e. omega arith) (λ e. h (omega arith)))
    where
      slot_beside : (k : ℕ) → (k ≡ 4 + 2 * i → ⊥) → (k ≡ 5 + 2 * i → ⊥) → get_or (set_slot q i f) k 0 ≡ get_or q k 0
      slot_beside k a b = get_or-set_other (set q (4 + 2 * i) f.covered) (5 + 2 * i) k f.members 0 b ∙ get_or-set_other q (4 + 2 * i) k f.covered 0 a

  -- the four numbers before the slots
  pub slot-behind : (k : ℕ) → k < 4 → get_or (set_slot q i f) k 0 ≡ get_or q k 0
  slot-behind k h =
      get_or-set_other (set q (4 + 2 * i) f.covered) (5 + 2 * i) k f.members 0 (λ e. omega arith)
      ∙ get_or-set_other q (4 + 2 * i) k f.covered 0 (λ e. omega arith)

  pub length-set_slot : length (set_slot q i f) ≡ length q
  length-set_slot = length-set (set q (4 + 2 * i) f.covered) (5 + 2 * i) f.members ∙ length-set q (4 + 2 * i) f.covered

-- the sums written
module _ (q : List ℕ) (n c m : ℕ) where
  pub sums_other : (k : ℕ) → (k ≡ 1 → ⊥) → (k ≡ 2 → ⊥) → (k ≡ 3 → ⊥) → get_or (set_sums q n c m) k 0 ≡ get_or q k 0
  sums_other k a b d =
      get_or-set_other (set (set q 1 n) 2 c) 3 k m 0 d ∙ get_or-set_other (set q 1 n) 2 k c 0 b ∙ get_or-set_other q 1 k n 0 a

  pub length-set_sums : length (set_sums q n c m) ≡ length q
  length-set_sums = length-set (set (set q 1 n) 2 c) 3 m ∙ length-set (set q 1 n) 2 c ∙ length-set q 1 n

  pub sums_slot : (i : ℕ) → slot (set_sums q n c m) i ≡ slot q i
  sums_slot i =
      same-fragment
      (sums_other (4 + 2 * i) (λ e. omega arith) (λ e. omega arith) (λ e. omega arith))
      (sums_other (5 + 2 * i) (λ e. omega arith) (λ e. omega arith) (λ e. omega arith))

  module _ (long : 4 ≤ length q) where
    pub sums_count : held_count (set_sums q n c m) ≡ n
    sums_count =
        get_or-set_other (set (set q 1 n) 2 c) 3 1 m 0 (λ e. omega arith) ∙ get_or-set_other (set q 1 n) 2 1 c 0 (λ e. omega arith)
        ∙ get_or-set_same q 1 n 0 (omega arith)

    pub sums_covered : covered_sum_of (set_sums q n c m) ≡ c
    sums_covered =
        get_or-set_other (set (set q 1 n) 2 c) 3 2 m 0 (λ e. omega arith) ∙ get_or-set_same (set q 1 n) 2 c 0 (rw (length-set q 1 n) (omega arith))

    pub sums_members : member_sum (set_sums q n c m) ≡ m
    sums_members = get_or-set_same (set (set q 1 n) 2 c) 3 m 0 (rw (length-set (set q 1 n) 2 c, length-set q 1 n) (omega arith))

pub length-ring : (q : List ℕ) (i n : ℕ) → length (ring q i n) ≡ n
unfolding ring
length-ring q i zero = refl
length-ring q i (suc n) = ap suc (length-ring q (suc i) n)

-- only the slots are read
pub ring_slots : (q r : List ℕ) → ((i : ℕ) → slot q i ≡ slot r i) → (i n : ℕ) → ring q i n ≡ ring r i n
unfolding ring
ring_slots q r same i zero = refl
ring_slots q r same i (suc n) = λ t. same (i % 64) t ∷ ring_slots q r same (suc i) n t

-- slots are counted around
pub ring_around : (q : List ℕ) (i j n : ℕ) → i % 64 ≡ j % 64 → ring q i n ≡ ring q j n
unfolding ring
ring_around q i j zero h = refl
ring_around q i j (suc n) h = λ t. slot q (h t) ∷ ring_around q (suc i) (suc j) n (omega arith) t

-- one slot more
pub ring-more : (q : List ℕ) (i n : ℕ) → ring q i (suc n) ≡ ring q i n ++ slot q ((i + n) % 64) ∷ []
unfolding ring
ring-more q i zero = rw (add-zero i) refl
ring-more q i (suc n) =
    let e : suc i + n ≡ i + suc n = omega arith in
    λ t. slot q (i % 64) ∷ (rw e at (ring-more q (suc i) n)) t

-- a slot written behind those read
pub ring-behind : (q : List ℕ) (f : Fragment) (p i n m : ℕ) → p ≡ (i + m) % 64 → n ≤ m → m < 64 → ring (set_slot q p f) i n ≡ ring q i n
unfolding ring
ring-behind q f p i zero m e h g = refl
ring-behind q f p i (suc n) m e h g =
    λ t. slot-other q p f (i % 64) (λ d. omega arith) t ∷ ring-behind q f p (suc i) n (m - 1) (omega arith) (omega arith) (omega arith) t
