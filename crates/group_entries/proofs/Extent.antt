-- What a decoded rash or alst tells of its bytes.
use mathlib.Core.Path.{◌≡◌, ap, sym}
use mathlib.Core.List.{List}
use Prim.Native.Nat.{ℕ, ◌+◌, ◌-◌, ◌*◌, ◌/◌, ◌%◌, ◌≤◌}
use native.Mathlib.Omega.{arith}
use lib.Dec.{ltb, eqb}
use lib.ListN.{length}
use borrow.Author.Tests.{ltb-false, eq-eqb, ne_eqb}
use Rattle.base_fields.specs.Answer.{Answer, given, input_limit}
use Rattle.base_fields.specs.Number.{be_at}
use Rattle.group_entries.specs.Decoded.{Rash, Alst, point_count, points_end, decode_rash, point_at, roll_count_of, offsets_end, decode_alst}
use Rattle.base_fields.proofs.Answers.{given_inj, given-past}
use Rattle.group_entries.proofs.Front.{ToldWithin}

-- what is given was not too long
past-limit : {A : Type 0} {s : List ℕ} {x : Answer A} {v : A} → ToldWithin s x (given v) → x ≡ given v
past-limit {s = s} {x} e = (given-past (ltb input_limit (length s)) 55 x (sym e.told)).1

-- the plain fields
abbrev pub rash_at : List ℕ → Rash
rash_at s =
    record {
      points = point_count s;
      maximum = be_at 4 s (points_end s);
      minimum = be_at 4 s (points_end s + 4);
      priority = be_at 1 s (points_end s + 8);
    }

pub rash-given : (s : List ℕ) {v : Rash} → decode_rash s ≡ given v → (v ≡ rash_at s) × (points_end s + 9 ≤ length s)
unfolding decode_rash
rash-given s e =
    let short = given-past (ltb (length s) 2) 40 _ e in
    let empty = given-past (eqb (point_count s) 0) 41 _ short.1 in
    let cut = given-past (ltb (length s) (points_end s)) 42 _ empty.1 in
    let trailer = given-past (ltb (length s) (points_end s + 9)) 43 _ cut.1 in
    (sym (given_inj trailer.1), ltb-false (length s) (points_end s + 9) trailer.0)

pub record RashExtent (s : List ℕ) (n : ℕ) : Type 0 where
  pub points : n ≡ point_count s
  pub whole : points_end s + 9 ≤ length s

pub rash-extent : {s : List ℕ} {v : Rash} → ToldWithin s (decode_rash s) (given v) → RashExtent s v.points
rash-extent {s} e =
    let x = rash-given s (past-limit e) in
    record { points = ap (λ (r : Rash). r.points) x.0; whole = x.1 }

-- one point is a share alone
pub single : (s : List ℕ) (k : ℕ) → point_count s ≡ 1 → point_at s k ≡ record { bitrate = 0; share = be_at 2 s 2 }
unfolding point_at
single s k h = simp (eq-eqb _ _ h)

pub several : (s : List ℕ) (k : ℕ) → (point_count s ≡ 1 → ⊥) → point_at s k ≡ record { bitrate = be_at 4 s (2 + 6 * k); share = be_at 2 s (6 + 6 * k) }
unfolding point_at
several s k h = simp (ne_eqb _ _ h)

abbrev pub alst_at : List ℕ → Alst
alst_at s = record { roll_count_of = roll_count_of s; first_output = be_at 2 s 2; pairs = (length s - offsets_end s) / 4 }

pub alst-given : (s : List ℕ) {v : Alst} → decode_alst s ≡ given v → (v ≡ alst_at s) × (offsets_end s + 4 * ((length s - offsets_end s) / 4) ≡ length s)
unfolding decode_alst
alst-given s e =
    let short = given-past (ltb (length s) 4) 40 _ e in
    let cut = given-past (ltb (length s) (offsets_end s)) 44 _ short.1 in
    let tail = given-past (ltb 0 ((length s - offsets_end s) % 4)) 45 _ cut.1 in (
      sym (given_inj tail.1),
      omega (arith, ltb-false (length s) (offsets_end s) cut.0, ltb-false 0 ((length s - offsets_end s) % 4) tail.0),
    )

pub record AlstExtent (s : List ℕ) (m n : ℕ) : Type 0 where
  pub rolls : m ≡ roll_count_of s
  pub pairs : offsets_end s + 4 * n ≡ length s

pub alst-extent : {s : List ℕ} {v : Alst} → ToldWithin s (decode_alst s) (given v) → AlstExtent s v.roll_count_of v.pairs
alst-extent {s} {v} e =
    let x = alst-given s (past-limit e) in
    let n : v.pairs ≡ (length s - offsets_end s) / 4 = ap (λ (a : Alst). a.pairs) x.0 in
    record { rolls = ap (λ (a : Alst). a.roll_count_of) x.0; pairs = rw n x.1 }
