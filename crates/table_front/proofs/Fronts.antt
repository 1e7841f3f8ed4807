-- The front of a payload: what stands behind it is reached exactly where it is there.
use mathlib.Core.Path.{◌≡◌, ap, sym}
use mathlib.Core.Bool.{Bool, true, false}
use mathlib.Core.List.{List}
use Prim.Native.Nat.{ℕ, ◌+◌, ◌≤◌}
use native.Mathlib.Omega.{arith}
use borrow.Author.Tests.{le-ltb, ltb-false}
use lib.Dec.{ltb}
use lib.ListN.{length}
use Rattle.base_fields.specs.Answer.{Answer, given, refused, choose, input_limit}
use Rattle.base_fields.proofs.Answers.{given_inj, given-past, refused-past, refused-given}
use Rattle.table_front.specs.Front.{Front, has_parameter, count_place, fronted, front_fields, Present}
use Rattle.table_front.specs.Told.{told_front, FrontOf}
use Rattle.table_front.specs.declared.TableFront.{TableFront}
use Rattle.std.specs.Prelude.{Ok}
use Rattle.table_front.specs.declared.TableKind.{TableKind}

place_bounds : (b : Bool) → (8 ≤ choose {A = ℕ} b 12 8) × (choose {A = ℕ} b 12 8 ≤ 12)
place_bounds true = (omega arith, omega arith)
place_bounds false = (omega arith, omega arith)

module _ (kind : TableKind) (s : List ℕ) where
  pub count_place_bounds : (8 ≤ count_place kind s) × (count_place kind s ≤ 12)
  count_place_bounds = place_bounds (has_parameter kind s)

  abbrev under_8 : Bool
  under_8 = ltb (length s) 8

  abbrev no_parameter : Bool
  no_parameter = ltb (length s) (count_place kind s)

  abbrev no_count : Bool
  no_count = ltb (length s) (count_place kind s + 4)

  -- a value stands behind it
  pub front-given : {A : Type 0} (x : Answer A) {y : A} → fronted kind s x ≡ given y → Present kind s × (x ≡ given y)
  front-given x e =
      let a = given-past (ltb input_limit (length s)) 55 _ e in
      let b = given-past under_8 20 _ a.1 in
      let c = given-past no_parameter 21 _ b.1 in
      let d = given-past no_count 22 x c.1 in
      (record { short = ltb-false _ _ a.0; whole = ltb-false _ _ d.0 }, d.1)

  pub front_rest : {A : Type 0} → Present kind s → (rest : Answer A) → fronted kind s rest ≡ rest
  front_rest t rest =
      let b = count_place_bounds in
      let h : 8 ≤ length s = omega (arith, t.whole) in
      let k : count_place kind s ≤ length s = omega (arith, t.whole) in
      simp (le-ltb _ _ t.short, le-ltb _ _ h, le-ltb _ _ k, le-ltb _ _ t.whole)

  -- its own refusal does not depend on what stands behind it
  pub front-refused : {A B : Type 0} (x : A) {n : ℕ} → fronted kind s (given x) ≡ refused n → (rest : Answer B) → fronted kind s rest ≡ refused n
  front-refused x e rest =
      refused-past (ltb input_limit (length s)) 55 _ _
      (refused-past under_8 20 _ _ (refused-past no_parameter 21 _ _ (refused-past no_count 22 (given x) rest (λ g. absurd (refused-given (sym g)))))) e

  -- what read_front gives
  pub front_of : (f : TableFront) → told_front (Ok f) ≡ fronted kind s (given (front_fields kind s)) → FrontOf kind s f
  front_of f e =
      let t = front-given (given (front_fields kind s)) (sym e) in
      let g = given_inj (sym t.1) in
      record {
        grouping_type_of = ap (λ (x : Front). x.grouping_type_of) g;
        parameter = ap (λ (x : Front). x.parameter) g;
        count = ap (λ (x : Front). x.count) g;
        first = ap (λ (x : Front). x.first) g;
        there = t.0;
      }
