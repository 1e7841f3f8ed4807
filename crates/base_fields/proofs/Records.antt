-- Laws of records of two numbers each in a lent run.
use mathlib.Core.Path.{◌≡◌, refl}
use Prim.Native.Nat.{ℕ, suc, ◌+◌, ◌*◌, ◌<◌}
use native.Mathlib.Numerals.{add-one}
use native.Mathlib.Omega.{arith}
use mathlib.Core.List.{List, [], ◌∷◌, ◌++◌, append_assoc}
use lib.ListN.{length, get_or, drop, set, length-append}
use lib.Seq.{drop-cons, set_at}
use Rattle.base_fields.specs.Records.{numbers_of}

-- from a record on
pub drop-two : (l : List ℕ) (i : ℕ) → i + 1 < length l → drop i l ≡ get_or l i 0 ∷ get_or l (i + 1) 0 ∷ drop (i + 2) l
drop-two l i h =
    let e : suc (i + 1) ≡ i + 2 = omega arith in
    let b : i < length l = omega arith in
    rw (drop-cons l i 0 b, ← add-one i, drop-cons l (i + 1) 0 h, e)

module _ {A : Type 0} (f g : A → ℕ) where
  pub numbers-length : (l : List A) → length (numbers_of f g l) ≡ 2 * length l
  unfolding numbers_of
  numbers-length [] = refl
  numbers-length (a ∷ l) = omega (arith, numbers-length l)

  pub numbers_append : (l m : List A) → numbers_of f g (l ++ m) ≡ numbers_of f g l ++ numbers_of f g m
  unfolding numbers_of
  numbers_append [] m = refl
  numbers_append (a ∷ l) m = rw (numbers_append l m)

  -- a run whose first records are the values
  abbrev pub in_run : List A → List ℕ → List ℕ
  in_run l run = numbers_of f g l ++ drop (2 * length l) run

  -- one value more, written behind them
  pub put_next : (l : List A) (a : A) (run : List ℕ) → 2 * length l + 1 < length run →
      set (set (in_run l run) (2 * length l) (f a)) (2 * length l + 1) (g a) ≡ in_run (l ++ (a ∷ [])) run
  unfolding numbers_of
  put_next l a run h =
      let n = 2 * length l in
      let x = get_or run n 0 in
      let y = get_or run (n + 1) 0 in
      let t = drop (n + 2) run in
      let front = numbers_of f g l in
      let one : set (front ++ x ∷ y ∷ t) n (f a) ≡ front ++ f a ∷ y ∷ t = set_at front x (y ∷ t) (f a) n (numbers-length l) in
      let e : length (front ++ (f a ∷ [])) ≡ n + 1 = simp (length-append, numbers-length) (omega arith) in
      let two : set ((front ++ (f a ∷ [])) ++ y ∷ t) (n + 1) (g a) ≡ (front ++ (f a ∷ [])) ++ g a ∷ t =
      set_at (front ++ (f a ∷ [])) y t (g a) (n + 1) e in
      let m : 2 * length (l ++ (a ∷ [])) ≡ n + 2 = simp length-append (omega arith) in
      rw (drop-two run n h, one, m, numbers_append) (simp append_assoc (simp append_assoc at two))
