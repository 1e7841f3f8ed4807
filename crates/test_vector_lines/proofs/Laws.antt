-- Laws of a line's length, of the numbers of an answer and of pairs of digits, from a place on.
use mathlib.Core.Path.{◌≡◌, refl, sym}
use mathlib.Core.Bool.{◌&&◌, true, false, and-false}
use mathlib.Core.List.{List, [], ◌∷◌, ◌++◌}
use Prim.Native.Nat.{ℕ, suc, ◌+◌, ◌*◌, ◌<◌, ◌≤◌}
use native.Mathlib.Numerals.{add-one}
use native.Mathlib.Omega.{arith}
use lib.Dec.{eqb, leb}
use lib.ListN.{length, get_or, take, drop, set, length-append, drop_of_length-le}
use lib.Seq.{drop-cons, slice, slice-cons, length-slice, take-suc-set, append_snoc}
use borrow.Author.Tests.{eq-eqb, ne_eqb, le-leb, lt-leb}
use Rattle.base_fields.specs.Number.{be_at}
use Rattle.test_vector_lines.specs.Lines.{line_length, numbers_from, digit_of, written, are_digits, decoded_size}

module _ (l : List ℕ) (i : ℕ) (h : i < length l) where
  pub line_ends : get_or l i 0 ≡ 10 → line_length (drop i l) ≡ 0
  unfolding line_length
  line_ends e = rw (drop-cons l i 0 h) (simp (eq-eqb (get_or l i 0) 10 e))

  pub line_goes : (get_or l i 0 ≡ 10 → ⊥) → line_length (drop i l) ≡ suc (line_length (drop (i + 1) l))
  unfolding line_length
  line_goes e = rw (add-one i, drop-cons l i 0 h) (simp (ne_eqb (get_or l i 0) 10 e))

pub line_none : (l : List ℕ) (i : ℕ) → length l ≤ i → line_length (drop i l) ≡ 0
unfolding line_length
line_none l i h = rw (drop_of_length-le l h) refl

pub number-first : (s ns : List ℕ) (k : ℕ) → k < length ns →
    numbers_from s (8 * k) (drop k ns) ≡ (eqb (be_at 8 s (8 * k)) (get_or ns k 0) && numbers_from s (8 * (k + 1)) (drop (k + 1) ns))
unfolding numbers_from
number-first s ns k h = let e : 8 * (k + 1) ≡ 8 * k + 8 = omega arith in rw (e, add-one k, drop-cons ns k 0 h) refl

pub number-none : (s ns : List ℕ) (p k : ℕ) → length ns ≤ k → numbers_from s p (drop k ns) ≡ true
unfolding numbers_from
number-none s ns p k h = rw (drop_of_length-le ns h) refl

module _ (t : List ℕ) (at to : ℕ) (h : at + 1 < to) (k : to ≤ length t) where
  pair-first : slice at to t ≡ get_or t at 0 ∷ get_or t (at + 1) 0 ∷ slice (at + 2) to t
  pair-first =
      let b : at < to = omega arith in
      let e : at + 2 ≡ suc (at + 1) = omega arith in
      rw (e, slice-cons at to t 0 b k, ← add-one at, slice-cons (at + 1) to t 0 h k) refl

  pub written-first : written (slice at to t) ≡ (digit_of (get_or t at 0) * 16 + digit_of (get_or t (at + 1) 0)) ∷ written (slice (at + 2) to t)
  unfolding written
  written-first = rw pair-first refl

  digits_first : are_digits (slice at to t) ≡
      (leb (digit_of (get_or t at 0)) 15 && (leb (digit_of (get_or t (at + 1) 0)) 15 && are_digits (slice (at + 2) to t)))
  unfolding are_digits
  digits_first = rw pair-first refl

  pub high_wrong : 15 < digit_of (get_or t at 0) → are_digits (slice at to t) ≡ false
  high_wrong b = rw digits_first (simp (lt-leb (digit_of (get_or t at 0)) 15 b))

  pub low_wrong : 15 < digit_of (get_or t (at + 1) 0) → are_digits (slice at to t) ≡ false
  low_wrong b = rw digits_first (simp (lt-leb (digit_of (get_or t (at + 1) 0)) 15 b, and-false))

  pub both_right : digit_of (get_or t at 0) ≤ 15 → digit_of (get_or t (at + 1) 0) ≤ 15 → are_digits (slice at to t) ≡ are_digits (slice (at + 2) to t)
  both_right b d = rw digits_first (simp (le-leb (digit_of (get_or t at 0)) 15 b, le-leb (digit_of (get_or t (at + 1) 0)) 15 d))

written_none : (s : List ℕ) → length s < 2 → written s ≡ []
unfolding written
written_none [] h = refl
written_none (b ∷ []) h = refl
written_none (b ∷ d ∷ s) h = absurd (omega arith)

digits_none : (s : List ℕ) → length s < 2 → are_digits s ≡ true
unfolding are_digits
digits_none [] h = refl
digits_none (b ∷ []) h = refl
digits_none (b ∷ d ∷ s) h = absurd (omega arith)

module _ (t : List ℕ) (at to : ℕ) (h : to ≤ at + 1) (k : to ≤ length t) where
  few : length (slice at to t) < 2
  few = omega (arith, length-slice at to t k)

  pub written-end : written (slice at to t) ≡ []
  written-end = written_none (slice at to t) few

  pub digits_end : are_digits (slice at to t) ≡ true
  digits_end = digits_none (slice at to t) few

-- one byte more, written behind the first n
pub put_next : (b w : List ℕ) (n v : ℕ) → n < length b → take n b ++ v ∷ w ≡ take (n + 1) (set b n v) ++ w
put_next b w n v h = rw (add-one n, take-suc-set b n v h) (sym (append_snoc (take n b) v w))

-- the room is full, and one more byte is written
pub size-short : (s p w : List ℕ) (v room : ℕ) → written s ≡ p ++ v ∷ w → room ≤ length p → decoded_size s room ≡ 0
unfolding decoded_size
size-short s p w v room e h =
    let n : room < length (written s) = rw e (simp length-append (omega arith)) in
    simp (lt-leb (length (written s)) room n, and-false)

pub size_none : (s : List ℕ) (room : ℕ) → are_digits s ≡ false → decoded_size s room ≡ 0
unfolding decoded_size
size_none s room e = simp e

pub size-all : (s : List ℕ) (n room : ℕ) → are_digits s ≡ true → length (written s) ≡ n → n ≤ room → decoded_size s room ≡ n
unfolding decoded_size
size-all s n room d e h = simp (d, e, le-leb n room h)
