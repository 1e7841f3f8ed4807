-- The queue in 132 numbers: the slot of the oldest fragment, how many are held, both sums, and a ring of 64 slots with two numbers to each. No call moves the slots.
use Rattle.std.specs.Prelude.{◌≡◌, ℕ, zero, suc, ◌+◌, ◌-◌, ◌*◌, ◌%◌, ◌<◌, ◌≤◌, List, [], ◌∷◌, ltb, eqb, length, get_or, set}
use Rattle.base_fields.specs.Answer.{Answer, given, refused, choose, refuse_if}
use Rattle.use_fragment_queue.specs.Held.{Fragment, fragment_of, cover_limit, queue_room, QueueCall, arrive, depart, admitted, covered_held, members_held, FragmentPlace}

abbrev pub queue_numbers : ℕ
queue_numbers = 132

abbrev pub first_slot : List ℕ → ℕ
first_slot q = get_or q 0 0

abbrev pub held_count : List ℕ → ℕ
held_count q = get_or q 1 0

abbrev pub covered_sum_of : List ℕ → ℕ
covered_sum_of q = get_or q 2 0

abbrev pub member_sum : List ℕ → ℕ
member_sum q = get_or q 3 0

-- a queue that a caller begins with: four zeros, whatever the slots hold
pub record QueueEmpty (q : List ℕ) : Type 0 where
  pub size : length q ≡ queue_numbers
  pub first : first_slot q ≡ 0
  pub count : held_count q ≡ 0
  pub covered : covered_sum_of q ≡ 0
  pub members : member_sum q ≡ 0

-- slot i: its covered samples, then its member samples
abbrev pub slot : List ℕ → ℕ → Fragment
slot q i = record { covered = get_or q (4 + 2 * i) 0; members = get_or q (5 + 2 * i) 0 }

abbrev pub set_slot : List ℕ → ℕ → Fragment → List ℕ
set_slot q i f = set (set q (4 + 2 * i) f.covered) (5 + 2 * i) f.members

-- how many are held, and both sums
abbrev pub set_sums : List ℕ → ℕ → ℕ → ℕ → List ℕ
set_sums q n covered members = set (set (set q 1 n) 2 covered) 3 members

-- n slots in ring order, from slot i on
unfoldable pub ring : List ℕ → ℕ → ℕ → List Fragment
ring q i zero = []
ring q i (suc n) = slot q (i % 64) ∷ ring q (suc i) n

-- a fragment comes, or the oldest leaves
abbrev pub arrived : List ℕ → Fragment → List ℕ
arrived q f =
    set_sums (set_slot q ((first_slot q + held_count q) % 64) f) (suc (held_count q)) (covered_sum_of q + f.covered) (member_sum q + f.members)

abbrev pub departed : List ℕ → List ℕ
departed q =
    let f = slot q (first_slot q % 64) in
    set_sums (set q 0 (suc (first_slot q) % 64)) (held_count q - 1) (covered_sum_of q - f.covered) (member_sum q - f.members)

abbrev pub call_queue : List ℕ → QueueCall → Answer (List ℕ)
call_queue q (arrive rows) = admitted rows (held_count q) (arrived q (fragment_of rows))
call_queue q depart = refuse_if (eqb (held_count q) 0) 72 (given (departed q))

-- a walk over n slots from slot i on, the j-th of those held, with k samples left
unfoldable pub walk_slots : List ℕ → ℕ → ℕ → ℕ → ℕ → Answer FragmentPlace
walk_slots q i zero j k = refused 73
walk_slots q i (suc n) j k =
    let c = (slot q (i % 64)).covered in
    choose (ltb k c) (given (record { fragment = j; sample = k })) (walk_slots q (suc i) n (suc j) (k - c))

-- fragments as they come: none covers more than the limit, and its members are among its samples
unfoldable pub SmallFragments : List Fragment → Type 0
SmallFragments [] = Unit {0}
SmallFragments (f ∷ fs) = ((f.covered ≤ cover_limit) × (f.members ≤ f.covered)) × SmallFragments fs

-- a queue made by calls, which holds these fragments
pub record QueueMade (held : List Fragment) (q : List ℕ) : Type 0 where
  pub size : length q ≡ queue_numbers
  pub first : first_slot q < 64
  pub count : held_count q ≡ length held
  pub fits : length held ≤ queue_room
  pub reads : ring q (first_slot q) (held_count q) ≡ held
  pub covered : covered_sum_of q ≡ covered_held held
  pub members : member_sum q ≡ members_held held
  pub small : SmallFragments held
