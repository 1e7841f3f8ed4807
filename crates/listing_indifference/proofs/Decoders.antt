-- Decoders read no listed bit.
use mathlib.Core.Path.{◌≡◌, refl, sym, ◌∙◌}
use mathlib.Core.Bool.{Bool, true, false}
use mathlib.Core.List.{List}
use Prim.Native.Nat.{ℕ, zero, suc, ◌+◌, ◌-◌, ◌*◌, ◌/◌, ◌%◌, ◌^◌, ◌<◌, ◌≤◌}
use native.Mathlib.Decide.{dec_lt}
use native.Mathlib.Omega.{arith}
use borrow.Author.Tests.{eqb-true, eqb-false, le-leb, lt-leb}
use lib.Dec.{eqb}
use Rattle.base_fields.specs.Answer.{given, choose, and_then}
use Rattle.base_fields.specs.Number.{be_at}
use Rattle.base_fields.specs.Fourcc as fourcc
use Rattle.base_fields.proofs.Agree.{bits-same}
use Rattle.base_fields.proofs.Answers.{and_then-same}
use Rattle.base_fields.proofs.Bits.{bits_of, be_at-below}
use Rattle.base_fields.proofs.Both.{choose-same}
use Rattle.group_entries.specs.declared.EntryLayout.{EntryLayout}
use Rattle.group_entries.specs.declared.EntryLayout.TheVariants.{Roll, Rap, Tele, Sap, Rash, Alst, Raw}
use Rattle.group_entries.specs.Layout.{decode_as, decode}
use Rattle.group_entries.specs.Decoded.{top_bit, decode_roll, decode_rap, decode_tele, decode_sap, decode_rash, point_count, points_end, point_at, up_to}
use Rattle.group_entries.proofs.Extent.{rash-given}
use Rattle.listing_indifference.specs.Bits.{Differ}
use Rattle.listing_indifference.specs.Places.{EntryListed, low_tele, middle_sap, after_roll, after_prol, after_rap, after_tele, after_sap, after_rash}
use Rattle.listing_indifference.proofs.Differ.{differ_same, differ_be, differ-none}

-- where listed bits of an entry stand, by type
record BytesTold (t i : ℕ) : Type 0 where
  roll : t ≡ fourcc.roll → 16 ≤ i
  prol : t ≡ fourcc.prol → 16 ≤ i
  rap : t ≡ fourcc.rap → 8 ≤ i

record RestTold (t : ℕ) (x : List ℕ) (i : ℕ) : Type 0 where
  rash : t ≡ fourcc.rash → 8 * (points_end x + 9) ≤ i
  alst : t ≡ fourcc.alst → ⊥
  raw : (t ≡ fourcc.roll → ⊥) → (t ≡ fourcc.prol → ⊥) → (t ≡ fourcc.rap → ⊥) → (t ≡ fourcc.tele → ⊥) → (t ≡ fourcc.sap → ⊥) → (t ≡ fourcc.rash → ⊥) → ⊥

module _ {t : ℕ} {x : List ℕ} {i : ℕ} where
  bytes-told : EntryListed t x i → BytesTold t i
  bytes-told (low_tele e u v) = omega arith
  bytes-told (middle_sap e u v) = omega arith
  bytes-told (after_roll e u) = omega arith
  bytes-told (after_prol e u) = omega arith
  bytes-told (after_rap e u) = omega arith
  bytes-told (after_tele e u) = omega arith
  bytes-told (after_sap e u) = omega arith
  bytes-told (after_rash e f u) = omega arith

  tele-told : EntryListed t x i → t ≡ fourcc.tele → 1 ≤ i
  tele-told (low_tele e u v) h = omega arith
  tele-told (middle_sap e u v) h = omega arith
  tele-told (after_roll e u) h = omega arith
  tele-told (after_prol e u) h = omega arith
  tele-told (after_rap e u) h = omega arith
  tele-told (after_tele e u) h = omega arith
  tele-told (after_sap e u) h = omega arith
  tele-told (after_rash e f u) h = omega arith

  sap-told : EntryListed t x i → t ≡ fourcc.sap → (1 ≤ i) × (4 ≤ i → 8 ≤ i)
  sap-told (low_tele e u v) h = omega arith
  sap-told (middle_sap e u v) h = omega arith
  sap-told (after_roll e u) h = omega arith
  sap-told (after_prol e u) h = omega arith
  sap-told (after_rap e u) h = omega arith
  sap-told (after_tele e u) h = omega arith
  sap-told (after_sap e u) h = omega arith
  sap-told (after_rash e f u) h = omega arith

  rest-told : EntryListed t x i → RestTold t x i
  rest-told (low_tele e u v) = omega arith
  rest-told (middle_sap e u v) = omega arith
  rest-told (after_roll e u) = omega arith
  rest-told (after_prol e u) = omega arith
  rest-told (after_rap e u) = omega arith
  rest-told (after_tele e u) = omega arith
  rest-told (after_sap e u) = omega arith
  rest-told (after_rash e f u) = omega arith

top-same : (x y : ℕ) → x < 256 → y < 256 → x / 128 % 2 ≡ y / 128 % 2 → top_bit x ≡ top_bit y
top-same x y h k e =
    elim (dec_lt x 128) [
      | yes l ↦ let m : y < 128 = omega arith in rw (lt-leb _ _ l, lt-leb _ _ m)
      | no l ↦
          let a : 128 ≤ x = omega arith in
          let b : 128 ≤ y = omega arith in
          rw (le-leb _ _ a, le-leb _ _ b)
    ]

up_to-same : {A : Type 0} (f g : ℕ → A) (k n : ℕ) → ((j : ℕ) → k ≤ j → j < k + n → f j ≡ g j) → up_to f k n ≡ up_to g k n
unfolding up_to
up_to-same f g k zero h = refl
up_to-same f g k (suc n) h = rw (h k (omega arith) (omega arith), up_to-same f g (suc k) n (λ j u v. h j (omega arith) (omega arith)))

points-behind : (b : Bool) (n : ℕ) → 2 ≤ choose b 4 (2 + 6 * n)
points-behind true n = omega arith
points-behind false n = omega arith

module _ {t : ℕ} {x y : List ℕ} (d : Differ (EntryListed t x) x y) where
  -- w bits of byte 0, from bit o on
  field : (w o : ℕ) → o + w ≤ 8 → ((k : ℕ) → o ≤ k → k < o + w → EntryListed t x k → ⊥)
      → be_at 1 x 0 / 2 ^ (8 - o - w) % 2 ^ w ≡ be_at 1 y 0 / 2 ^ (8 - o - w) % 2 ^ w
  field w o l h =
      sym (bits_of w 1 x 0 o d.first l) ∙ bits-same w x y (8 * 0 + o) (differ_same d _ _ (λ k u v. h k (omega arith) (omega arith)))
      ∙ bits_of w 1 y 0 o d.second l

  top : ((k : ℕ) → EntryListed t x k → 1 ≤ k) → top_bit (be_at 1 x 0) ≡ top_bit (be_at 1 y 0)
  top h = top-same _ _ (be_at-below 1 x 0 d.first) (be_at-below 1 y 0 d.second) (field 1 0 (omega arith) (λ k u v z. omega (arith, h k z)))

  roll-same : ((k : ℕ) → EntryListed t x k → 16 ≤ k) → decode_roll x ≡ decode_roll y
  unfolding decode_roll
  roll-same h = rw (d.long, differ_be d 2 0 (λ k u v z. omega (arith, h k z)))

  rap-same : ((k : ℕ) → EntryListed t x k → 8 ≤ k) → decode_rap x ≡ decode_rap y
  unfolding decode_rap
  rap-same h = rw (d.long, differ_be d 1 0 (λ k u v z. omega (arith, h k z)))

  tele-same : ((k : ℕ) → EntryListed t x k → 1 ≤ k) → decode_tele x ≡ decode_tele y
  unfolding decode_tele
  tele-same h = rw (d.long, top h)

  sap-same : ((k : ℕ) → EntryListed t x k → (1 ≤ k) × (4 ≤ k → 8 ≤ k)) → decode_sap x ≡ decode_sap y
  unfolding decode_sap
  sap-same h =
      let low : be_at 1 x 0 % 16 ≡ be_at 1 y 0 % 16 = omega (arith, field 4 4 (omega arith) (λ k u v z. let e = (h k z).1 u in omega arith)) in
      rw (d.long, top (λ k z. (h k z).0), low)

  module _ (h : (k : ℕ) → EntryListed t x k → 8 * (points_end x + 9) ≤ k) where
    -- a number in front of the trailer's end
    early : (w p : ℕ) → p + w ≤ points_end x + 9 → be_at w x p ≡ be_at w y p
    early w p l = differ_be d w p (λ k u v z. omega (arith, h k z))

    rash-same : decode_rash x ≡ decode_rash y
    unfolding decode_rash
    rash-same =
        let count = early 2 0 (omega (arith, points-behind (eqb (point_count x) 1) (point_count x))) in
        rw (← d.long, ← count, early 4 (points_end x) (omega arith), early 4 (points_end x + 4) (omega arith), early 1 (points_end x + 8) (omega arith))

    point-same : (k : ℕ) → k < point_count x → point_at x k ≡ point_at y k
    unfolding point_at
    point-same k l =
        let some = points-behind (eqb (point_count x) 1) (point_count x) in
        let count = early 2 0 (omega arith) in
        rw (← count)
        (choose-same (eqb (point_count x) 1) (λ _. rw (early 2 2 (omega arith)))
        (λ e. let p : points_end x ≡ 2 + 6 * point_count x = rw e refl in rw (early 4 (2 + 6 * k) (omega arith), early 2 (6 + 6 * k) (omega arith))))

    rash-whole : decode_as Rash x ≡ decode_as Rash y
    rash-whole =
        rw (← rash-same)
        (and_then-same (decode_rash x) _ _ (λ r e.
        let n = (rash-given x e).0 in
        rw n (rw (up_to-same (point_at x) (point_at y) 0 (point_count x) (λ j u v. point-same j (omega arith))))))

  -- the layout of a type, choice by choice
  layout_same : (test : Bool) (l m : EntryLayout) → (test ≡ true → decode_as l x ≡ decode_as l y) → (test ≡ false → decode_as m x ≡ decode_as m y)
      → decode_as (choose test l m) x ≡ decode_as (choose test l m) y
  layout_same true l m h k = h refl
  layout_same false l m h k = k refl

  -- entries of one length that differ in listed bits only
  pub decode-same : decode t x ≡ decode t y
  unfolding decode
  decode-same =
      let l7 = choose (eqb t fourcc.alst) Alst Raw in
      let l6 = choose (eqb t fourcc.rash) Rash l7 in
      let l5 = choose (eqb t fourcc.sap) Sap l6 in
      let l4 = choose (eqb t fourcc.tele) Tele l5 in
      let l3 = choose (eqb t fourcc.rap) Rap l4 in
      let l2 = choose (eqb t fourcc.prol) Roll l3 in
      layout_same (eqb t fourcc.roll) Roll l2 (λ e. rw (roll-same (λ k z. (bytes-told z).roll (eqb-true _ _ e)))) (λ a.
      layout_same (eqb t fourcc.prol) Roll l3 (λ e. rw (roll-same (λ k z. (bytes-told z).prol (eqb-true _ _ e)))) (λ b.
      layout_same (eqb t fourcc.rap) Rap l4 (λ e. rw (rap-same (λ k z. (bytes-told z).rap (eqb-true _ _ e)))) (λ c.
      layout_same (eqb t fourcc.tele) Tele l5 (λ e. rw (tele-same (λ k z. tele-told z (eqb-true _ _ e)))) (λ f.
      layout_same (eqb t fourcc.sap) Sap l6 (λ e. rw (sap-same (λ k z. sap-told z (eqb-true _ _ e)))) (λ g.
      layout_same (eqb t fourcc.rash) Rash l7 (λ e. rash-whole (λ k z. (rest-told z).rash (eqb-true _ _ e))) (λ h.
      layout_same (eqb t fourcc.alst) Alst Raw (λ e. rw (differ-none d (λ k z. (rest-told z).alst (eqb-true _ _ e)))) (λ i.
      rw (differ-none d (λ k z. (rest-told z).raw (eqb-false _ _ a) (eqb-false _ _ b) (eqb-false _ _ c)
      (eqb-false _ _ f) (eqb-false _ _ g) (eqb-false _ _ h))))))))))
