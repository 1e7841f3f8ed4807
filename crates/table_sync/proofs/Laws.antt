-- What the answers of an stss say of all its numbers (document 02, A6).
use mathlib.Core.Path.{◌≡◌, refl, ap, ◌∙◌}
use mathlib.Core.Bool.{Bool, true, false}
use mathlib.Core.Logic.{◌↔◌}
use mathlib.Core.List.{List}
use Prim.Native.Nat.{ℕ, ◌+◌, ◌-◌, ◌≤◌, ◌<◌}
use native.Mathlib.Omega.{arith}
use lib.ListN.{length, get_or}
use Rattle.base_fields.specs.Answer.{Answer, given, none, none_if}
use lib.Dec.{eqb}
use borrow.Author.Tests.{eqb-true, eqb-false}
use Rattle.base_fields.proofs.Answers.{given_inj}
use Rattle.table_sync.specs.Sync.{stss, among, is_sync, last_up_to, last_sync}
use Rattle.table_sync.proofs.Numbers.{Among, among-is, up_to_le, up_to-most, up_to-there}

module _ (s : List ℕ) {numbers : List ℕ} (table : stss s ≡ given numbers) where
  -- yes exactly when the sample plus 1 is among the numbers
  pub sync_exactly : (sample : ℕ) → (is_sync s sample ≡ given true) ↔ Among (sample + 1) numbers
  sync_exactly sample =
      let is = among-is (sample + 1) numbers in
      (λ e. is.0 (given_inj (rw table at e)), λ x. rw table (ap given (is.1 x)))

  -- the last one at or before a frame is a number of the table, and no number of the table lies between it and the frame
  pub last-greatest : (frame k : ℕ) → k < length numbers → get_or numbers k 0 ≤ frame + 1 → get_or numbers k 0 ≤ last_up_to (frame + 1) numbers
  last-greatest frame k h e = up_to-most (frame + 1) numbers k h e

  pub last-there : (frame : ℕ) → (last_up_to (frame + 1) numbers ≡ 0 → ⊥) → Among (last_up_to (frame + 1) numbers) numbers × (last_up_to (frame + 1) numbers ≤ frame + 1)
  last-there frame h = (up_to-there (frame + 1) numbers h, up_to_le (frame + 1) numbers)

-- what the answer of last_sync_sample says of the answers of is_sync_sample
module _ (s : List ℕ) {numbers : List ℕ} (table : stss s ≡ given numbers) (frame : ℕ) where
  -- none of the samples above a bound and up to the frame is a sync sample
  not_sync : (j u : ℕ) → last_up_to (frame + 1) numbers ≡ u → u ≤ j → j ≤ frame → is_sync s j ≡ given false
  not_sync j u e above below = rw table (by (among (j + 1) numbers) refl)
    where
      by : (t : Bool) → among (j + 1) numbers ≡ t → ◌≡◌ {A = Answer Bool} (given t) (given false)
      by true f =
          let x = (among-is (j + 1) numbers).0 f in
          absurd (omega (arith, last-greatest s table frame x.0 x.1 (omega (arith, x.2)), x.2, e))
      by false f = refl

  told : (u : ℕ) (k : ℕ) → none_if (eqb u 0) (given (u - 1)) ≡ given k → u ≡ k + 1
  told u k e = by (eqb u 0) refl e
    where
      by : (t : Bool) → eqb u 0 ≡ t → none_if t (given (u - 1)) ≡ given k → u ≡ k + 1
      by true f g = let z : ◌≡◌ {A = ℕ} 0 1 = cc in absurd (omega arith)
      by false f g = omega (arith, given_inj g, eqb-false u 0 f)

  pub last-is_sync : (k : ℕ) → last_sync s frame ≡ given k → (is_sync s k ≡ given true) × (k ≤ frame) × ((j : ℕ) → k < j → j ≤ frame → is_sync s j ≡ given false)
  last-is_sync k e =
      let u = last_up_to (frame + 1) numbers in
      let same : u ≡ k + 1 = told u k (rw table at e) in
      let there = last-there s table frame (λ z. omega (arith, z, same)) in
      ((sync_exactly s table k).1 (there.0.0, there.0.1, there.0.2 ∙ same), omega (arith, there.1, same), λ j above below. not_sync j u refl (omega (arith, same)) below)

  told_none : (u : ℕ) → none_if (eqb u 0) (given (u - 1)) ≡ none → u ≡ 0
  told_none u e = by (eqb u 0) refl e
    where
      by : (t : Bool) → eqb u 0 ≡ t → none_if t (given (u - 1)) ≡ none → u ≡ 0
      by true f g = eqb-true u 0 f
      by false f g = let z : ◌≡◌ {A = ℕ} 0 1 = cc in absurd (omega arith)

  pub none-is_sync : last_sync s frame ≡ none → (j : ℕ) → j ≤ frame → is_sync s j ≡ given false
  none-is_sync e j below =
      let u = last_up_to (frame + 1) numbers in
      not_sync j 0 (told_none u (rw table at e)) (omega arith) below
