-- Entries that share the bytes left: those of one share are passed at once.
use mathlib.Core.Path.{◌≡◌, refl}
use mathlib.Core.List.{List}
use Prim.Native.Nat.{ℕ, zero, suc, ◌+◌, ◌-◌, ◌*◌, ◌/◌, ◌%◌, ◌≤◌, ◌<◌}
use native.Mathlib.Nat.{suc-mul, zero-mul, add-zero, add-mul, one-mul, mul_comm, mul-le-mul_right, le-div_iff_mul-le, div-lt_iff_lt-mul, div-mul-le_self, div-add-mod'}
use native.Mathlib.Omega.{arith}
use borrow.Author.Tests.{le-ltb, ne_eqb, eq-eqb}
use lib.ListN.{length}
use Rattle.base_fields.specs.Answer.{given, refused}
use Rattle.group_sgpd.specs.Sgpd.{entry_count_of, span_at}
use Rattle.group_sgpd.specs.Head.{lengths_of, after}
use Rattle.group_sgpd.specs.declared.Lengths.TheVariants.{Shared}
use Rattle.group_sgpd.proofs.Entries.{span_at-by}

-- how many entries get the share b / c of b bytes for c entries, one after the other: behind all but the last of them, b / c bytes for each of c are still left
module _ (b c m : ℕ) (some : 0 < c) (few : m ≤ b % c / (b / c) + 1) where
  shares_left : m * (b / c) + c * (b / c) ≤ b + b / c
  shares_left =
      let most : m * (b / c) ≤ (b % c / (b / c) + 1) * (b / c) = mul-le-mul_right (b / c) few in
      omega (arith, most, add-mul (b % c / (b / c)) 1 (b / c), one-mul (b / c), div-mul-le_self (b % c) (b / c), div-add-mod' b c, mul_comm (b / c) c)

  pub shares-inside : m * (b / c) ≤ b
  shares-inside =
      let once : 1 * (b / c) ≤ c * (b / c) = mul-le-mul_right (b / c) some in
      omega (arith, once, one-mul (b / c), shares_left)

module _ (s : List ℕ) (shared : lengths_of s ≡ Shared) {c : ℕ} (count : c ≡ entry_count_of s) where
  pub share-none : (p : ℕ) {b : ℕ} → length s - p ≡ b → b / c ≡ 0 → span_at s p ≡ refused 34
  share-none p e z =
      let d : (length s - p) / entry_count_of s ≡ 0 = rw (e, ← count) z in
      rw (span_at-by s p, shared, eq-eqb _ _ d)

  module _ (some : 0 < c) (q : ℕ) (more : 0 < q) where
    share-is : (p : ℕ) → c * q ≤ length s - p → length s - p < (q + 1) * c → span_at s p ≡ given (record { place = p; size = q })
    share-is p l u =
        let low : q ≤ (length s - p) / c = (le-div_iff_mul-le some).1 (omega (arith, mul_comm q c)) in
        let high : (length s - p) / c < q + 1 = (div-lt_iff_lt-mul some).1 u in
        let d : (length s - p) / entry_count_of s ≡ q = rw (← count) (omega (arith, low, high)) in
        let once : 1 * q ≤ c * q = mul-le-mul_right q some in
        let i : p + q ≤ length s = omega (arith, once, one-mul q) in
        let z : q ≡ 0 → ⊥ = (λ e. omega arith) in
        rw (span_at-by s p, shared, d, ne_eqb _ _ z, le-ltb _ _ i)

    shares : (m p : ℕ) → m * q + c * q ≤ length s - p + q → length s - p < (q + 1) * c → after m s p ≡ given (p + m * q)
    unfolding after
    shares zero p l u = rw (zero-mul, add-zero) refl
    shares (suc m) p l u =
        let once : 1 * q ≤ c * q = mul-le-mul_right q some in
        let here = share-is p (omega (arith, suc-mul m q)) u in
        let e : p + suc m * q ≡ p + q + m * q = omega (arith, suc-mul m q) in
        rw (here, e) (shares m (p + q) (omega (arith, suc-mul m q, once, one-mul q)) (omega arith))

  -- m entries of one share passed at once are those passed one by one
  pub shares-passed : (m p : ℕ) {b : ℕ} → length s - p ≡ b → 0 < c → 0 < b / c → m ≤ b % c / (b / c) + 1 → after m s p ≡ given (p + m * (b / c))
  shares-passed m p {b} e some more few =
      let high : b < (b / c + 1) * c = (div-lt_iff_lt-mul {k = c} {x = b} {y = b / c + 1} some).0 (omega arith) in
      shares some (b / c) more m p (omega (arith, e, shares_left b c m some few)) (omega (arith, e, high))
