-- The answers, case by case, from what the code's tests tell.
use mathlib.Core.Path.{◌≡◌, refl, ap, sym, ◌∙◌}
use mathlib.Core.Bool.{true, false}
use mathlib.Core.List.{List, []}
use Prim.Native.Nat.{ℕ, zero, suc, ◌+◌, ◌-◌, ◌*◌, ◌<◌, ◌≤◌}
use native.Mathlib.Omega.{arith}
use lib.Dec.{ltb, eqb}
use lib.ListN.{length, get_or, drop, drop_of_length-le}
use lib.Seq.{drop-cons}
use native.Mathlib.Numerals.{add-one}
use borrow.Author.Tests.{lt-ltb, le-ltb, le-leb, lt-leb, eq-eqb, ne_eqb}
use Rattle.base_fields.specs.Answer as answer
use Rattle.base_fields.specs.Answer.{Answer, given, refused, choose, none_if, and_then, input_limit}
use Rattle.base_fields.proofs.Answers.{given_inj}
use Rattle.base_fields.specs.Number.{be_at}
use Rattle.table_sync.specs.Sync.{numbers_in, rising, stss, among, is_sync, last_up_to, last_sync, dependencies_in, dependency_of, dependency_at}
use Rattle.table_sync.proofs.Records.{record_count, record_at}
use Rattle.table_sync.proofs.Numbers.{last_from, last-rising, among-last}

module _ (s : List ℕ) where
  pub stss-long : input_limit < length s → stss s ≡ refused 55
  unfolding stss
  stss-long h = simp (lt-ltb input_limit (length s) h)

  module _ (short : length s ≤ input_limit) where
    pub stss_headless : length s < 8 → stss s ≡ refused 65
    unfolding stss
    stss_headless h = simp (le-ltb input_limit (length s) short, lt-ltb (length s) 8 h)

    pub stss-cut : 8 ≤ length s → length s < 8 + 4 * be_at 4 s 4 → stss s ≡ refused 65
    unfolding stss
    stss-cut w h = simp (le-ltb input_limit (length s) short, le-ltb (length s) 8 w, lt-ltb (length s) (8 + 4 * be_at 4 s 4) h)

    -- all of the numbers are there
    module _ (there : 8 + 4 * be_at 4 s 4 ≤ length s) where
      pub stss-falls : rising 0 (numbers_in s) ≡ false → stss s ≡ refused 66
      unfolding stss
      stss-falls e =
          simp (le-ltb input_limit (length s) short, le-ltb (length s) 8 (omega arith), le-ltb (length s) (8 + 4 * be_at 4 s 4) there, e)

      pub stss-rises : rising 0 (numbers_in s) ≡ true → stss s ≡ given (numbers_in s)
      unfolding stss
      stss-rises e =
          simp (le-ltb input_limit (length s) short, le-ltb (length s) 8 (omega arith), le-ltb (length s) (8 + 4 * be_at 4 s 4) there, e)

-- what the numbers so far tell: k of them are passed, `last` is the last one, `found` the greatest up to the limit
pub record Passed (limit : ℕ) (l : List ℕ) (k last found : ℕ) : Type 0 where
  pub rises : rising 0 l ≡ rising last (drop k l)
  pub finds : last_from limit 0 l ≡ last_from limit found (drop k l)

module _ (limit : ℕ) (l : List ℕ) where
  pub none_passed : Passed limit l 0 0 0
  none_passed = record { rises = refl; finds = refl }

  module _ {k last found : ℕ} (p : Passed limit l k last found) (h : k < length l) where
    pub one-falls : get_or l k 0 ≤ last → rising 0 l ≡ false
    unfolding rising
    one-falls f = p.rises ∙ rw (drop-cons l k 0 h) (simp (le-ltb last (get_or l k 0) f))

    pub one-passed : last < get_or l k 0 → Passed limit l (k + 1) (get_or l k 0) (choose (ltb limit (get_or l k 0)) found (get_or l k 0))
    unfolding rising last_from
    one-passed f =
        record {
          rises = p.rises ∙ rw (drop-cons l k 0 h, add-one) (simp (lt-ltb last (get_or l k 0) f));
          finds = p.finds ∙ rw (drop-cons l k 0 h, add-one) refl;
        }

  -- by the smallest number that may follow
  pub passed-before : {k last found least : ℕ} → Passed limit l k last found → least ≡ last + 1 → Passed limit l k (least - 1) found
  passed-before {k} {last} {found} {least} p e = let before : least - 1 ≡ last = omega arith in rw before p

  -- all of them
  pub all-passed : {k last found : ℕ} → Passed limit l k last found → k ≡ length l → (rising 0 l ≡ true) × (last_up_to limit l ≡ found)
  unfolding rising last_from
  all-passed {k} {last} {found} p e =
      let end : drop k l ≡ [] = drop_of_length-le l {i = k} (omega arith) in
      let rises : rising 0 l ≡ true = p.rises ∙ rw end refl in
      let finds : last_from limit 0 l ≡ found = p.finds ∙ rw end refl in
      (rises, greatest (last_up_to limit l) (sym (last-rising limit 0 0 l rises (omega arith)) ∙ finds))
    where
      greatest : (u : ℕ) → choose (ltb 0 u) u 0 ≡ found → u ≡ found
      greatest zero f = f
      greatest (suc u) f = rw (lt-ltb 0 (suc u) (omega arith)) at f

-- from the greatest number up to the sample plus 1
pub sync_told : (told : Answer (List ℕ)) (sample : ℕ) {n : ℕ} → and_then told (λ l. given (last_up_to (sample + 1) l)) ≡ given n
    → given (eqb n (sample + 1)) ≡ and_then told (λ l. given (among (sample + 1) l))
sync_told (given l) sample e = ap given (rw (← given_inj e) (among-last (sample + 1) l (omega arith)))
sync_told answer.none sample e = let z : ◌≡◌ {A = ℕ} 0 1 = cc in absurd (omega arith)
sync_told (refused k) sample e = let z : ◌≡◌ {A = ℕ} 0 1 = cc in absurd (omega arith)

pub same-refusal : {A B C : Type 0} (told : Answer A) (f : A → B) (g : A → Answer C) (k : ℕ) → and_then told (λ l. given (f l)) ≡ refused k → refused k ≡ and_then told g
same-refusal (given l) f g k e = let z : ◌≡◌ {A = ℕ} 0 1 = cc in absurd (omega arith)
same-refusal answer.none f g k e = let z : ◌≡◌ {A = ℕ} 0 1 = cc in absurd (omega arith)
same-refusal (refused n) f g k e = let z : n ≡ k = cc in rw z refl

module _ (s : List ℕ) (sample : ℕ) {n : ℕ} (told : and_then (stss s) (λ l. given (last_up_to (sample + 1) l)) ≡ given n) where
  pub sync_yes : n ≡ sample + 1 → given true ≡ is_sync s sample
  sync_yes e = ap given (sym (eq-eqb n (sample + 1) e)) ∙ sync_told (stss s) sample told

  pub sync_no : (n ≡ sample + 1 → ⊥) → given false ≡ is_sync s sample
  sync_no e = ap given (sym (ne_eqb n (sample + 1) e)) ∙ sync_told (stss s) sample told

  last-told : (a : Answer (List ℕ)) → and_then a (λ l. given (last_up_to (sample + 1) l)) ≡ given n
      → none_if (eqb n 0) (given (n - 1)) ≡ and_then a (λ l. none_if (eqb (last_up_to (sample + 1) l) 0) (given (last_up_to (sample + 1) l - 1)))
  last-told (given l) e = rw (given_inj e) refl
  last-told answer.none e = let z : ◌≡◌ {A = ℕ} 0 1 = cc in absurd (omega arith)
  last-told (refused k) e = let z : ◌≡◌ {A = ℕ} 0 1 = cc in absurd (omega arith)

  pub last_none : n ≡ 0 → answer.none ≡ last_sync s sample
  last_none e = (rw e refl) ∙ last-told (stss s) told

  pub last_some : (n ≡ 0 → ⊥) → given (n - 1) ≡ last_sync s sample
  last_some e = simp (ne_eqb n 0 e) at (last-told (stss s) told)

-- the greatest number up to a limit, by what the table answers
pub number-given : (s : List ℕ) (limit : ℕ) {l : List ℕ} {n : ℕ} → stss s ≡ given l → last_up_to limit l ≡ n → given n ≡ and_then (stss s) (λ numbers. given (last_up_to limit numbers))
number-given s limit e f = rw (e, f) refl

pub number-refused : (s : List ℕ) (limit : ℕ) {k : ℕ} → stss s ≡ refused k → refused k ≡ and_then (stss s) (λ numbers. given (last_up_to limit numbers))
number-refused s limit e = rw e refl

-- an sdtp
module _ (s : List ℕ) (k : ℕ) where
  pub sdtp_long : input_limit < length s → refused 55 ≡ dependency_at s k
  unfolding dependency_at
  sdtp_long h = simp (lt-ltb input_limit (length s) h)

  module _ (short : length s ≤ input_limit) where
    pub sdtp_headless : length s < 4 → refused 65 ≡ dependency_at s k
    unfolding dependency_at
    sdtp_headless h = simp (le-ltb input_limit (length s) short, lt-ltb (length s) 4 h)

    module _ (there : 4 ≤ length s) where
      pub sdtp_past : length s - 4 ≤ k → answer.none ≡ dependency_at s k
      unfolding dependency_at
      sdtp_past h =
          simp (le-ltb input_limit (length s) short, le-ltb (length s) 4 there, record_count 1 s (length s - 4) 4, le-leb (length s - 4) k h)

      pub sdtp_given : {b : ℕ} → k < length s - 4 → b ≡ be_at 1 s (4 + k) → given (dependency_of b) ≡ dependency_at s k
      unfolding dependency_at
      sdtp_given {b} h e =
          let place : 4 + 1 * k ≡ 4 + k = omega arith in
          let at : get_or (dependencies_in s) k 0 ≡ b = record_at 1 s (length s - 4) 4 k h ∙ rw place (sym e) in
          simp (le-ltb input_limit (length s) short, le-ltb (length s) 4 there, record_count 1 s (length s - 4) 4, lt-leb (length s - 4) k h, at)
