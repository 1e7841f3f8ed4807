-- What each way out of the code promises.
use mathlib.Core.Path.{◌≡◌, refl, ap, sym, subst, ◌∙◌}
use Prim.Native.Nat.{ℕ, suc, ◌+◌, ◌-◌, ◌%◌, ◌<◌, ◌≤◌}
use native.Mathlib.Decide.{dec_lt}
use native.Mathlib.Omega.{arith}
use borrow.Author.Tests.{lt-ltb, le-ltb, le-leb, lt-leb, eq-eqb, ne_eqb}
use mathlib.Core.List.{List, [], ◌∷◌}
use lib.ListN.{set}
use Rattle.base_fields.specs.Answer.{Answer, given, refused}
use Rattle.base_fields.proofs.Answers.{given_inj, refused-given}
use Rattle.base_ids.specs.Limits.{record_limit}
use Rattle.table_rows.specs.Row.{Row, rows_of, covered, records_in}
use Rattle.table_rows.proofs.RowAt.{rows-length}
use Rattle.use_fragment_queue.specs.Held.{Fragment, fragment_of, members_of, cover_limit, QueueCall, arrive, depart, call_held, kept, accepting, covered_held, members_held}
use Rattle.use_fragment_queue.specs.Ring.{first_slot, held_count, covered_sum_of, member_sum, slot, set_slot, set_sums, call_queue, QueueMade}
use Rattle.use_fragment_queue.specs.Queued.{QueueDue, GivesQueue, counts}
use Rattle.use_fragment_queue.proofs.Held.{covered-bound, members-bound}
use Rattle.use_fragment_queue.proofs.Queue.{QueuesAgree, call-made, kept-made, same_answer, oldest}

-- an answer that is the definition's is the one due
due : (c : QueueCall) (q after : List ℕ) {told : Answer Unit} {a : Answer (List ℕ)} → call_queue q c ≡ a → told ≡ accepting a → after ≡ kept a q
    → (held : List Fragment) → QueueMade held q → QueueDue held c q after told
due c q after e f g held m =
    let agrees = subst (λ (a : Answer (List ℕ)). QueuesAgree (call_held held c) a) e (call-made c m) in
    record { answer = f ∙ same_answer agrees; made = rw g (kept-made agrees m); exact = rw (e) g }

module _ (c : QueueCall) (q : List ℕ) where
  refusal : (n : ℕ) → call_queue q c ≡ refused n → GivesQueue c q q (refused n)
  refusal n e = record { due = λ held m. due c q q e refl refl held m; stays = λ n f. refl }

  accepted : (after : List ℕ) → call_queue q c ≡ given after → GivesQueue c q after (given tt)
  accepted after e = record { due = λ held m. due c q after e refl refl held m; stays = λ n f. absurd (refused-given (sym f)) }

  -- a queue that no calls made
  pub unmade : (n : ℕ) → ((held : List Fragment) → QueueMade held q → ⊥) → GivesQueue c q q (refused n)
  unmade n none = record { due = λ held m. absurd (none held m); stays = λ n f. refl }

module _ (l q : List ℕ) where
  abbrev rows : List Row
  rows = rows_of l

  pub too_many : record_limit < records_in l → GivesQueue (arrive rows) q q (refused 55)
  too_many many = refusal (arrive rows) q 55 (rw (rows-length l, lt-ltb record_limit (records_in l) many) refl)

  module _ (few : records_in l ≤ record_limit) where
    pub too_long : cover_limit < covered rows → GivesQueue (arrive rows) q q (refused 28)
    too_long long = refusal (arrive rows) q 28 (rw (rows-length l, le-ltb record_limit (records_in l) few, lt-ltb cover_limit (covered rows) long) refl)

    module _ (short : covered rows ≤ cover_limit) where
      pub full : 64 ≤ held_count q → GivesQueue (arrive rows) q q (refused 71)
      full g =
          refusal (arrive rows) q 71
          (rw (rows-length l, le-ltb record_limit (records_in l) few, le-ltb cover_limit (covered rows) short, le-leb 64 (held_count q) g) refl)

      -- with the numbers that the code has
      pub comes : held_count q < 64 → (a b p n : ℕ) → covered rows ≡ a → members_of rows ≡ b → (first_slot q + held_count q) % 64 ≡ p → suc (held_count q) ≡ n
          → GivesQueue (arrive rows) q (set_sums (set_slot q p (record { covered = a; members = b })) n (covered_sum_of q + a) (member_sum q + b)) (given tt)
      comes g a b p n ea eb ep en =
          accepted (arrive rows) q (set_sums (set_slot q p (record { covered = a; members = b })) n (covered_sum_of q + a) (member_sum q + b))
          (rw (rows-length l, le-ltb record_limit (records_in l) few, le-ltb cover_limit (covered rows) short, lt-leb 64 (held_count q) g)
          (λ t. given (set_sums (set_slot q (ep t) (record { covered = ea t; members = eb t })) (en t) (covered_sum_of q + ea t) (member_sum q + eb t))))

module _ (q : List ℕ) where
  pub nothing-held : held_count q ≡ 0 → GivesQueue depart q q (refused 72)
  nothing-held e = refusal depart q 72 (rw (eq-eqb (held_count q) 0 e) refl)

  -- with the numbers that the code has
  pub goes : (held_count q ≡ 0 → ⊥) → (i p : ℕ) → suc (first_slot q) % 64 ≡ i → first_slot q % 64 ≡ p
      → GivesQueue depart q (set_sums (set q 0 i) (held_count q - 1) (covered_sum_of q - (slot q p).covered) (member_sum q - (slot q p).members)) (given tt)
  goes some i p e f =
      accepted depart q (set_sums (set q 0 i) (held_count q - 1) (covered_sum_of q - (slot q p).covered) (member_sum q - (slot q p).members))
      (rw (ne_eqb (held_count q) 0 some)
      (λ t. given (set_sums (set q 0 (e t)) (held_count q - 1) (covered_sum_of q - (slot q (f t)).covered) (member_sum q - (slot q (f t)).members))))

-- what the sums of a made queue are
pub sums_small : {held : List Fragment} {q : List ℕ} → QueueMade held q → (covered_sum_of q ≤ 274877906880) × (member_sum q ≤ 274877906880)
sums_small {held} {q} m =
    let b = covered-bound held m.small in
    let d = members-bound held m.small in
    (omega (arith, m.fits, m.covered), omega (arith, m.fits, m.covered, m.members))

pub oldest-counted : {held : List Fragment} {q : List ℕ} → (held_count q ≡ 0 → ⊥) → QueueMade held q
    → ((slot q (first_slot q % 64)).covered ≤ covered_sum_of q) × ((slot q (first_slot q % 64)).members ≤ member_sum q)
unfolding covered_held members_held
oldest-counted {held = []} {q} h m = absurd (h m.count)
oldest-counted {held = f ∷ fs} {q} h m =
    let e = oldest m in
    (omega (arith, m.covered, ap (λ (g : Fragment). g.covered) e), omega (arith, m.members, ap (λ (g : Fragment). g.members) e))

-- what counted rows are: the fragment, or 28
pub counted_is : (rows : List Row) {a b : ℕ} → given (record { covered = a; members = b }) ≡ counts rows → (covered rows ≡ a) × (members_of rows ≡ b) × (covered rows ≤ cover_limit)
counted_is rows e =
    elim (dec_lt cover_limit (covered rows)) [
      | yes h ↦ absurd (refused-given {n = 28} (sym (e ∙ rw (lt-ltb cover_limit (covered rows) h) refl)))
      | no h ↦
          let f = given_inj {y = fragment_of rows} (e ∙ rw (le-ltb cover_limit (covered rows) (omega arith)) refl) in
          (ap (λ (g : Fragment). g.covered) (sym f), ap (λ (g : Fragment). g.members) (sym f), omega arith)
    ]

pub counted-over : (rows : List Row) {n : ℕ} → refused n ≡ counts rows → (n ≡ 28) × (cover_limit < covered rows)
counted-over rows {n} e =
    elim (dec_lt cover_limit (covered rows)) [
      | yes h ↦ (let z : ◌≡◌ {A = Answer Fragment} (refused n) (refused 28) = e ∙ rw (lt-ltb cover_limit (covered rows) h) refl in cc, h)
      | no h ↦ absurd (refused-given {x = fragment_of rows} (e ∙ rw (le-ltb cover_limit (covered rows) (omega arith)) refl))
    ]
