-- The points of a rash in front of a lent run: written one after another, and what is answered then.
use mathlib.Core.Path.{◌≡◌, refl, ap, sym, ◌∙◌}
use mathlib.Core.List.{List, [], ◌∷◌, ◌++◌}
use Prim.Native.Nat.{ℕ, zero, suc, ◌+◌, ◌*◌, ◌/◌, ◌<◌, ◌≤◌}
use native.Mathlib.Omega.{arith}
use lib.ListN.{length, drop, set, length-append}
use borrow.Author.Tests.{lt-ltb, le-ltb}
use Rattle.std.specs.Prelude.{Result, Ok, Err}
use Rattle.base_fields.specs.Answer.{Answer, given, refused, and_then, within, in_front}
use Rattle.base_fields.specs.Number.{be_at}
use Rattle.base_fields.specs.Records.{numbers_of, room_for, GivesRecords}
use Rattle.base_fields.specs.Refusal.{number}
use Rattle.base_fields.specs.declared.refusal.Refusal.{Refusal}
use Rattle.base_fields.specs.declared.refusal.Refusal.TheVariants as refusal
use Rattle.base_fields.proofs.Answers.{within_then}
use Rattle.base_fields.proofs.Records.{numbers-length, put_next}
use Rattle.group_entries.specs.Decoded.{Point, Rash, decode_rash, point_count, point_at, up_to, rash_points}
use Rattle.group_entries.proofs.Front.{ToldWithin}
use Rattle.group_entries.proofs.Extent.{single, several}

module _ {A : Type 0} (f : ℕ → A) where
  pub up_to-length : (i n : ℕ) → length (up_to f i n) ≡ n
  unfolding up_to
  up_to-length i zero = refl
  up_to-length i (suc n) = ap suc (up_to-length (suc i) n)

  -- n values and then one more
  pub up_to-last : (i n : ℕ) → up_to f i (n + 1) ≡ up_to f i n ++ (f (i + n) ∷ [])
  unfolding up_to
  up_to-last i zero = ap (λ (j : ℕ). f j ∷ []) (omega arith)
  up_to-last i (suc n) =
      let d : suc n + 1 ≡ suc (n + 1) = omega arith in
      let e : suc i + n ≡ i + suc n = omega arith in
      rw d (ap (λ (l : List A). f i ∷ l) (up_to-last (suc i) n ∙ rw e refl))

-- the numbers of a point
abbrev pub bitrate_of : Point → ℕ
bitrate_of p = p.bitrate

abbrev pub share_of : Point → ℕ
share_of p = p.share

module _ (s run : List ℕ) where
  -- the run with the first n points in front
  abbrev pub points_in : ℕ → List ℕ
  points_in n = numbers_of bitrate_of share_of (up_to (point_at s) 0 n) ++ drop (2 * n) run

  pub no_points : run ≡ points_in 0
  unfolding up_to numbers_of
  no_points = refl

  pub points-in-front : (n : ℕ) → points_in n ≡ in_front (numbers_of bitrate_of share_of (up_to (point_at s) 0 n)) run
  points-in-front n = rw (numbers-length bitrate_of share_of (up_to (point_at s) 0 n), up_to-length (point_at s) 0 n) refl

  put-point : (n : ℕ) → 2 * n + 1 < length run → set (set (points_in n) (2 * n) (point_at s n).bitrate) (2 * n + 1) (point_at s n).share ≡ points_in (n + 1)
  put-point n h =
      let e = up_to-length (point_at s) 0 n in
      let m : length (up_to (point_at s) 0 n ++ (point_at s n ∷ [])) ≡ n + 1 = simp (length-append, e) in
      let z : 0 + n ≡ n = omega arith in
      rw (up_to-last (point_at s) 0 n, z) (rw (e, m) at (put_next bitrate_of share_of (up_to (point_at s) 0 n) (point_at s n) run (rw e h)))

  -- the next of several points
  pub put-several : (n : ℕ) → (point_count s ≡ 1 → ⊥) → 2 * n + 1 < length run →
      set (set (points_in n) (2 * n) (be_at 4 s (2 + 6 * n))) (2 * n + 1) (be_at 2 s (2 + 6 * n + 4)) ≡ points_in (n + 1)
  put-several n more h =
      let d : 6 + 6 * n ≡ 2 + 6 * n + 4 = omega arith in
      rw (several s n more, d) at (put-point n h)

  -- a point alone
  pub put-single : point_count s ≡ 1 → 1 < length run → set (set run 0 0) 1 (be_at 2 s 2) ≡ in_front (numbers_of bitrate_of share_of (up_to (point_at s) 0 1)) run
  unfolding up_to numbers_of
  put-single one h = ap (λ (p : Point). set (set run 0 p.bitrate) 1 p.share) (sym (single s 0 one)) ∙ put-point 0 h ∙ points-in-front 1

  -- what is answered, by what the decoder told
  answered : {y : Answer Rash} → ToldWithin s (decode_rash s) y → and_then y (λ r. room_for run (up_to (point_at s) 0 r.points)) ≡ within s (rash_points s run)
  answered e = within_then (decode_rash s) (λ r. room_for run (up_to (point_at s) 0 r.points)) s e.told

  abbrev Gives : List ℕ → Result ℕ Refusal → Type 0
  Gives after r = GivesRecords (within s (rash_points s run)) bitrate_of share_of run after r

  pub points-refused : {e : Refusal} → ToldWithin s (decode_rash s) (refused (number e)) → Gives run (Err e)
  points-refused e = rw (← answered e) (record { answer = refl; run = refl })

  module _ {v : Rash} (e : ToldWithin s (decode_rash s) (given v)) where
    pub no_room : length run / 2 < v.points → Gives run (Err refusal.NoRecordLeft)
    no_room h =
        let l = up_to-length (point_at s) 0 v.points in
        rw (← answered e) (simp (l, lt-ltb _ _ h) (record { answer = refl; run = refl }))

    pub room : (n : ℕ) (after : List ℕ) → v.points ≡ n → n ≤ length run / 2 → after ≡ in_front (numbers_of bitrate_of share_of (up_to (point_at s) 0 n)) run → Gives after (Ok n)
    room n after c h w =
        let l = up_to-length (point_at s) 0 n in
        rw (← answered e, c) (simp (l, le-ltb _ _ h) (record { answer = simp l; run = w }))
