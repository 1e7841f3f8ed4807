-- A call on a queue that holds fragments leaves one that holds those due, with both sums a recount.
use mathlib.Core.Path.{◌≡◌, refl, ap, sym, ◌∙◌}
use Prim.Native.Nat.{ℕ, suc, ◌+◌, ◌-◌, ◌*◌, ◌%◌, ◌<◌, ◌≤◌}
use native.Mathlib.Omega.{arith}
use native.Mathlib.Decide.{dec_lt}
use native.Mathlib.Numerals.{add-one}
use borrow.Author.Tests.{lt-ltb, le-ltb, le-leb, lt-leb}
use mathlib.Core.Bool.{false}
use mathlib.Core.List.{List, [], ◌∷◌, ◌++◌}
use lib.Dec.{eqb, eqb-suc-zero}
use lib.ListN.{length, set, length-set, length-append}
use lib.Seq.{get_or-set_same, get_or-set_other}
use Rattle.base_fields.specs.Answer.{Answer, given, refused}
use Rattle.table_rows.specs.Row.{covered}
use Rattle.base_ids.specs.Limits.{record_limit}
use Rattle.use_fragment_queue.specs.Held.{Fragment, fragment_of, cover_limit, QueueCall, arrive, depart, call_held, kept, accepting, covered_held, members_held}
use Rattle.use_fragment_queue.specs.Ring.{first_slot, held_count, covered_sum_of, member_sum, QueueEmpty, slot, set_slot, ring, arrived, departed, call_queue, SmallFragments, QueueMade}
use Rattle.use_fragment_queue.proofs.Ring.{same-fragment, slot_same, slot-behind, length-set_slot, sums_other, length-set_sums, sums_slot, sums_count, sums_covered, sums_members, ring_slots, ring_around, ring-more, ring-behind}
use Rattle.use_fragment_queue.proofs.Held.{members-covered, covered_more, members-more, small-more}

pub empty-made : {q : List ℕ} → QueueEmpty q → QueueMade [] q
unfolding ring covered_held members_held SmallFragments
empty-made {q} e = record {
  size = e.size;
  first = omega (arith, e.first);
  count = e.count;
  fits = omega arith;
  reads = rw e.count refl;
  covered = e.covered;
  members = e.members;
  small = tt;
}

-- a fragment comes
pub arrived-made : {held : List Fragment} {q : List ℕ} (f : Fragment) → length held < 64 → f.covered ≤ cover_limit → f.members ≤ f.covered → QueueMade held q
    → QueueMade (held ++ f ∷ []) (arrived q f)
arrived-made {held} {q} f h g b m =
    let n : held_count q < 64 = omega (arith, m.count) in
    let i = first_slot q in
    let p = (i + held_count q) % 64 in
    let l = set_slot q p f in
    let c = covered_sum_of q + f.covered in
    let s = member_sum q + f.members in
    let size : length l ≡ 132 = length-set_slot q p f ∙ m.size in
    let last : slot l p ≡ f = slot_same q p f (omega (arith, m.size)) in
    let start : first_slot (arrived q f) ≡ i = sums_other l (suc (held_count q)) c s 0 (λ e. omega arith) (λ e. omega arith) (λ e. omega arith) ∙ slot-behind q p f 0 (omega arith) in
    let more : held_count (arrived q f) ≡ suc (held_count q) = sums_count l (suc (held_count q)) c s (omega (arith, size)) in
    record {
      size = length-set_sums l (suc (held_count q)) c s ∙ size;
      first = omega (arith, start, m.first);
      count = more ∙ ap suc m.count ∙ sym (length-append held (f ∷ []) ∙ add-one (length held));
      fits = rw (length-append held (f ∷ [])) (omega arith);
      reads =
          rw (start, more)
          (ring_slots (arrived q f) l (sums_slot l (suc (held_count q)) c s) i (suc (held_count q))
          ∙ ring-more l i (held_count q)
          ∙ (λ t. (ring-behind q f p i (held_count q) (held_count q) refl (omega arith) n ∙ m.reads) t ++ last t ∷ []));
      covered = sums_covered l (suc (held_count q)) c s (omega (arith, size)) ∙ ap (λ (x : ℕ). x + f.covered) m.covered ∙ sym (covered_more f held);
      members = sums_members l (suc (held_count q)) c s (omega (arith, size)) ∙ ap (λ (x : ℕ). x + f.members) m.members ∙ sym (members-more f held);
      small = small-more f held g b m.small;
    }

abbrev head_or : Fragment → List Fragment → Fragment
head_or d [] = d
head_or d (f ∷ fs) = f

abbrev tail : List Fragment → List Fragment
tail [] = []
tail (f ∷ fs) = fs

-- the first slot and those behind it
module _ {f : Fragment} {fs : List Fragment} {q : List ℕ} (m : QueueMade (f ∷ fs) q) where
  parted : slot q (first_slot q % 64) ∷ ring q (suc (first_slot q)) (held_count q - 1) ≡ f ∷ fs
  unfolding ring
  parted = let e : held_count q ≡ suc (held_count q - 1) = omega (arith, m.count) in rw e at m.reads

  pub oldest : slot q (first_slot q % 64) ≡ f
  oldest = ap (head_or f) parted

  -- the oldest leaves
  pub departed-made : QueueMade fs (departed q)
  unfolding covered_held members_held SmallFragments
  departed-made =
      let i = first_slot q in
      let next = suc i % 64 in
      let l = set q 0 next in
      let g = slot q (i % 64) in
      let n = held_count q - 1 in
      let c = covered_sum_of q - g.covered in
      let s = member_sum q - g.members in
      let size : length l ≡ 132 = length-set q 0 next ∙ m.size in
      let start : first_slot (departed q) ≡ next = sums_other l n c s 0 (λ e. omega arith) (λ e. omega arith) (λ e. omega arith) ∙ get_or-set_same q 0 next 0 (omega (arith, m.size)) in
      let fewer : held_count (departed q) ≡ n = sums_count l n c s (omega (arith, size)) in
      let same : (j : ℕ) → slot (departed q) j ≡ slot q j =
      λ j. sums_slot l n c s j ∙ same-fragment (get_or-set_other q 0 (4 + 2 * j) next 0 (λ e. omega arith)) (get_or-set_other q 0 (5 + 2 * j) next 0 (λ e. omega arith)) in
      record {
        size = length-set_sums l n c s ∙ size;
        first = omega (arith, start);
        count = omega (arith, fewer, m.count);
        fits = omega (arith, m.fits);
        reads = rw (start, fewer) (ring_slots (departed q) q same next n ∙ ring_around q next (suc i) n (omega arith) ∙ ap tail parted);
        covered = omega (arith, sums_covered l n c s (omega (arith, size)), m.covered, ap (λ (g : Fragment). g.covered) oldest);
        members = omega (arith, sums_members l n c s (omega (arith, size)), m.members, ap (λ (g : Fragment). g.members) oldest);
        small = m.small.1;
      }

-- the two answers to a call on a queue that holds these fragments: the same refusal, or a queue that holds the fragments due
pub data QueuesAgree : Answer (List Fragment) → Answer (List ℕ) → Type 0 where
  accepts : {held : List Fragment} {q : List ℕ} → QueueMade held q → QueuesAgree (given held) (given q)
  refuses : {n : ℕ} → QueuesAgree (refused n) (refused n)

pub call-made : {held : List Fragment} {q : List ℕ} (c : QueueCall) → QueueMade held q → QueuesAgree (call_held held c) (call_queue q c)
call-made {held} {q} (arrive rows) m =
    elim (dec_lt record_limit (length rows)) [
      | yes a ↦ rw (lt-ltb record_limit (length rows) a) refuses
      | no a ↦
          elim (dec_lt cover_limit (covered rows)) [
            | yes b ↦ rw (le-ltb record_limit (length rows) (omega arith), lt-ltb cover_limit (covered rows) b) refuses
            | no b ↦
                elim (dec_lt (length held) 64) [
                  | yes d ↦
                      rw (
                        le-ltb record_limit (length rows) (omega arith),
                        le-ltb cover_limit (covered rows) (omega arith),
                        lt-leb 64 (length held) d,
                        lt-leb 64 (held_count q) (omega (arith, m.count)),
                      )
                      (accepts (arrived-made (fragment_of rows) d (omega arith) (members-covered rows) m))
                  | no d ↦
                      rw (
                        le-ltb record_limit (length rows) (omega arith),
                        le-ltb cover_limit (covered rows) (omega arith),
                        le-leb 64 (length held) (omega arith),
                        le-leb 64 (held_count q) (omega (arith, m.count)),
                      )
                      refuses
                ]
          ]
    ]
call-made {held = []} {q} depart m = rw m.count refuses
call-made {held = f ∷ fs} {q} depart m =
    let e : eqb (held_count q) 0 ≡ false = ap (λ (n : ℕ). eqb n 0) m.count ∙ eqb-suc-zero (length fs) in rw e (accepts (departed-made m))

pub kept-made : {held : List Fragment} {q : List ℕ} {a : Answer (List Fragment)} {b : Answer (List ℕ)} → QueuesAgree a b → QueueMade held q → QueueMade (kept a held) (kept b q)
kept-made (accepts n) m = n
kept-made refuses m = m

pub same_answer : {a : Answer (List Fragment)} {b : Answer (List ℕ)} → QueuesAgree a b → accepting b ≡ accepting a
same_answer (accepts n) = refl
same_answer refuses = refl
