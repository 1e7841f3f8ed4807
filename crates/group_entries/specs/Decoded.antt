-- Part 7 of document 01: the typed entries of an sgpd. An entry is the whole list of its bytes.
use Rattle.std.specs.Prelude.{ℕ, zero, suc, ◌+◌, ◌-◌, ◌*◌, ◌/◌, ◌%◌, Bool, List, [], ◌∷◌, ltb, leb, eqb, ℤ, pos, negsuc, length}
use Rattle.base_fields.specs.Answer.{Answer, given, choose, refuse_if, none_if, and_then}
use Rattle.base_fields.specs.Number.{be_at}
use Rattle.base_fields.specs.Records.{room_for}

-- the signed number that 16 bits hold
unfoldable pub signed16 : ℕ → ℤ
signed16 x = choose (ltb x 32768) (pos x) (negsuc (65535 - x))

-- the top bit of a byte
abbrev pub top_bit : ℕ → Bool
top_bit b = leb 128 b

pub record Rap : Type 0 where
  pub known : Bool
  pub number : ℕ

pub record Sap : Type 0 where
  pub dependent : Bool
  pub type : ℕ

pub record Point : Type 0 where
  pub bitrate : ℕ
  pub share : ℕ

pub record Rash : Type 0 where
  pub points : ℕ
  pub maximum : ℕ
  pub minimum : ℕ
  pub priority : ℕ

pub record OutputPair : Type 0 where
  pub output : ℕ
  pub total : ℕ

pub record Alst : Type 0 where
  pub roll_count_of : ℕ
  pub first_output : ℕ
  pub pairs : ℕ

-- roll and prol
unfoldable pub decode_roll : List ℕ → Answer ℤ
decode_roll s = refuse_if (ltb (length s) 2) 40 (given (signed16 (be_at 2 s 0)))

unfoldable pub decode_rap : List ℕ → Answer Rap
decode_rap s = refuse_if (ltb (length s) 1) 40 (given (record { known = top_bit (be_at 1 s 0); number = be_at 1 s 0 % 128 }))

unfoldable pub decode_tele : List ℕ → Answer Bool
decode_tele s = refuse_if (ltb (length s) 1) 40 (given (top_bit (be_at 1 s 0)))

unfoldable pub decode_sap : List ℕ → Answer Sap
decode_sap s = refuse_if (ltb (length s) 1) 40 (given (record { dependent = top_bit (be_at 1 s 0); type = be_at 1 s 0 % 16 }))

-- rash: one point is a share alone; more are a bitrate and a share each. The trailer stands behind them
abbrev pub point_count : List ℕ → ℕ
point_count s = be_at 2 s 0

abbrev pub points_end : List ℕ → ℕ
points_end s = choose (eqb (point_count s) 1) 4 (2 + 6 * point_count s)

unfoldable pub decode_rash : List ℕ → Answer Rash
decode_rash s =
    refuse_if (ltb (length s) 2) 40
    (refuse_if (eqb (point_count s) 0) 41
    (refuse_if (ltb (length s) (points_end s)) 42
    (refuse_if (ltb (length s) (points_end s + 9)) 43
    (given
    (record {
      points = point_count s;
      maximum = be_at 4 s (points_end s);
      minimum = be_at 4 s (points_end s + 4);
      priority = be_at 1 s (points_end s + 8);
    })))))

-- point k of a rash
unfoldable pub point_at : List ℕ → ℕ → Point
point_at s k =
    choose (eqb (point_count s) 1) (record { bitrate = 0; share = be_at 2 s 2 })
    (record { bitrate = be_at 4 s (2 + 6 * k); share = be_at 2 s (6 + 6 * k) })

-- alst: offsets from byte 4, then pairs to the end
abbrev pub roll_count_of : List ℕ → ℕ
roll_count_of s = be_at 2 s 0

abbrev pub offsets_end : List ℕ → ℕ
offsets_end s = 4 + 4 * roll_count_of s

unfoldable pub decode_alst : List ℕ → Answer Alst
decode_alst s =
    refuse_if (ltb (length s) 4) 40
    (refuse_if (ltb (length s) (offsets_end s)) 44
    (refuse_if (ltb 0 ((length s - offsets_end s) % 4)) 45
    (given (record { roll_count_of = roll_count_of s; first_output = be_at 2 s 2; pairs = (length s - offsets_end s) / 4 }))))

unfoldable pub offset_at : List ℕ → ℕ → ℕ
offset_at s k = be_at 4 s (4 + 4 * k)

unfoldable pub pair_at : List ℕ → ℕ → OutputPair
pair_at s k = record { output = be_at 2 s (offsets_end s + 4 * k); total = be_at 2 s (offsets_end s + 4 * k + 2) }

-- by number k, counted from 0: the decoder's refusals first, none past the count
unfoldable pub by_number : {A B : Type 0} → Answer A → (A → ℕ) → ℕ → B → Answer B
by_number x count k b = and_then x (λ v. none_if (leb (count v) k) (given b))

abbrev pub rash_point : List ℕ → ℕ → Answer Point
rash_point s k = by_number (decode_rash s) (λ r. r.points) k (point_at s k)

abbrev pub alst_offset : List ℕ → ℕ → Answer ℕ
alst_offset s k = by_number (decode_alst s) (λ a. a.roll_count_of) k (offset_at s k)

abbrev pub alst_pair : List ℕ → ℕ → Answer OutputPair
alst_pair s k = by_number (decode_alst s) (λ a. a.pairs) k (pair_at s k)

-- f at 0, 1, .., n - 1
unfoldable pub up_to : {A : Type 0} → (ℕ → A) → ℕ → ℕ → List A
up_to f k zero = []
up_to f k (suc n) = f k ∷ up_to f (suc k) n

-- all points of a rash, for a lent run of two numbers to a point: the decoder's refusals, then 29
abbrev pub rash_points : List ℕ → List ℕ → Answer (List Point)
rash_points s run = and_then (decode_rash s) (λ r. room_for run (up_to (point_at s) 0 r.points))

-- a decoded value: one constructor for each layout of part 7, and one for the raw bytes of any other type
pub data Decoded : Type 0 where
  roll_of : ℤ → Decoded
  rap_of : Rap → Decoded
  tele_of : Bool → Decoded
  sap_of : Sap → Decoded
  rash_of : Rash → List Point → Decoded
  alst_of : Alst → List ℕ → List OutputPair → Decoded
  raw_of : List ℕ → Decoded
  deriving Discrete as decide_decoded
