-- Landmarks: set one after the other, and the one before an entry.
use mathlib.Core.Path.{◌≡◌, refl, ap, sym, ◌∙◌}
use mathlib.Core.List.{List}
use Prim.Native.Nat.{ℕ, ◌+◌, ◌-◌, ◌*◌, ◌/◌, ◌≤◌, ◌<◌}
use native.Mathlib.Nat.{add-mul, one-mul, lt_of_mul-lt-mul_right, div-mul-le_self, lt-mul-div-succ}
use native.Mathlib.Decide.{dec_lt}
use native.Mathlib.Omega.{arith}
use lib.ListN.{length, get_or, set}
use lib.Seq.{get_or-set_same, get_or-set_other}
use Rattle.base_fields.specs.Answer.{given, refused}
use Rattle.group_sgpd.specs.Sgpd.{entry_count_of, entry_count_place}
use Rattle.group_sgpd.specs.Head.{after, ReadWhole, OnEntry}
use Rattle.group_sgpd.specs.Marks.{marks_apart, Marks}
use Rattle.group_sgpd.specs.declared.SgpdHead.{SgpdHead}
use Rattle.group_sgpd.proofs.Entries.{after-add}
use Rattle.group_sgpd.proofs.Onward.{entry-unrefused}

module _ (s : List ℕ) (n : ℕ) where
  -- landmark k of those n apart stands at a place
  abbrev pub MarkAt : ℕ → ℕ → Type 0
  MarkAt k p = after (k * n) s (entry_count_place s + 4) ≡ given p

  -- so do those before number k
  abbrev pub MarksBelow : List ℕ → ℕ → Type 0
  MarksBelow l k = (j : ℕ) → j < k → MarkAt j (get_or l j 0)

  pub marks-more : (l : List ℕ) (k p : ℕ) → k < length l → MarksBelow l k → MarkAt k p → MarksBelow (set l k p) (k + 1)
  marks-more l k p b below at j h =
      elim (dec_lt j k) [
        | yes lt ↦ below j lt ∙ ap given (sym (get_or-set_other l k j p 0 (λ e. omega arith)))
        | no ge ↦
            let e : j ≡ k = omega arith in
            rw e (at ∙ ap given (sym (get_or-set_same l k p 0 b)))
      ]

  -- the next one is n entries on
  pub next-mark : (k : ℕ) {p : ℕ} → MarkAt k p → after ((k + 1) * n) s (entry_count_place s + 4) ≡ after n s p
  next-mark k at = rw (add-mul, one-mul) (after-add s (k * n) n (entry_count_place s + 4) ∙ rw at refl)

-- a landmark before the last entry is reached
pub mark-unrefused : {s : List ℕ} {h : SgpdHead} → ReadWhole s h → (m : ℕ) {code : ℕ} → m < entry_count_of s → after m s (entry_count_place s + 4) ≡ refused code → ⊥
mark-unrefused {s} r m b e =
    let d : m ≡ m + 1 - 1 = omega arith in
    entry-unrefused r (m + 1) (omega arith) (omega arith) (rw d at e)

module _ (s l : List ℕ) {n : ℕ} (apart : n ≡ marks_apart (entry_count_of s)) where
  -- those before the count are all
  pub marks-all : (k : ℕ) → MarksBelow s n l k → entry_count_of s ≤ k * n → Marks s l
  marks-all k below b = rw (← apart) (λ j h. below j (lt_of_mul-lt-mul_right n {m = j} {n = k} (omega arith)))

  -- sixteen times as many are more than all
  pub enough : entry_count_of s < 16 * n
  enough = rw apart (lt-mul-div-succ (entry_count_of s) (omega arith))

  -- the landmark before entry i, counted from 1
  module _ (marks : Marks s l) (i : ℕ) (a : 0 < i) (b : i ≤ entry_count_of s) where
    abbrev before : ℕ
    before = (i - 1) / n

    pub mark-below : before * n < i
    mark-below = omega (arith, div-mul-le_self (i - 1) n)

    pub mark-there : before < 16
    mark-there = lt_of_mul-lt-mul_right n {m = before} {n = 16} (omega (arith, mark-below, enough))

    pub on-mark : OnEntry s (record { index = record { 0 = before * n + 1 }; place = get_or l before 0 })
    on-mark =
        let d : before * n + 1 - 1 ≡ before * n = omega arith in
        let there : before * n < entry_count_of s = omega (arith, mark-below) in
        record { number = omega arith; place = rw d ((rw (← apart) at marks) before there) }
