-- Request A6 of document 02: the sync table stss and the dependency table sdtp. s is the body of the atom.
use Rattle.std.specs.Prelude.{ℕ, zero, suc, ◌+◌, ◌-◌, ◌*◌, ◌/◌, ◌%◌, Bool, true, false, not, ◌&&◌, List, [], ◌∷◌, ltb, leb, eqb, length, get_or}
use Rattle.base_fields.specs.Answer.{Answer, given, choose, refuse_if, none_if, and_then, within}
use Rattle.base_fields.specs.Number.{be_at}

-- n records of w bytes from place p on, one behind the other. Record k stands at p + w * k: the law `record_at` of proofs/Records.antt, for both tables
unfoldable pub records_from : ℕ → ℕ → List ℕ → ℕ → List ℕ
records_from zero w s p = []
records_from (suc n) w s p = be_at w s p ∷ records_from n w s (p + w)

-- each number is larger than the one before it; the first is larger than `last`
unfoldable pub rising : ℕ → List ℕ → Bool
rising last [] = true
rising last (n ∷ ns) = ltb last n && rising n ns

-- the numbers of an stss: version and flags, a u32 count, that many u32 sample numbers; later bytes are ignored
abbrev pub numbers_in : List ℕ → List ℕ
numbers_in s = records_from (be_at 4 s 4) 4 s 8

-- 65 where bytes are missing; 66 where the numbers do not rise or there is a zero among them
unfoldable pub stss : List ℕ → Answer (List ℕ)
stss s =
    within s
    (refuse_if (ltb (length s) 8) 65
    (refuse_if (ltb (length s) (8 + 4 * be_at 4 s 4)) 65
    (refuse_if (not (rising 0 (numbers_in s))) 66 (given (numbers_in s)))))

-- a number is among others
unfoldable pub among : ℕ → List ℕ → Bool
among n [] = false
among n (m ∷ ms) = choose (eqb m n) true (among n ms)

-- a sample, from 0, is a sync sample exactly when the sample plus 1 is among the numbers
abbrev pub is_sync : List ℕ → ℕ → Answer Bool
is_sync s sample = and_then (stss s) (λ numbers. given (among (sample + 1) numbers))

-- the greatest number up to a limit; 0 where there is none, since no number is 0
unfoldable pub last_up_to : ℕ → List ℕ → ℕ
last_up_to limit [] = 0
last_up_to limit (n ∷ ns) = choose (ltb limit n) (last_up_to limit ns) (choose (ltb (last_up_to limit ns) n) n (last_up_to limit ns))

-- the last sync sample, from 0, at or before a frame; none where there is none
abbrev pub last_sync : List ℕ → ℕ → Answer ℕ
last_sync s frame =
    and_then (stss s) (λ numbers. none_if (eqb (last_up_to (frame + 1) numbers) 0) (given (last_up_to (frame + 1) numbers - 1)))

-- the four fields of a sample, two bits each, highest first
pub record Dependency : Type 0 where
  pub is_leading_by : ℕ
  pub depends_on : ℕ
  pub is_depended_on : ℕ
  pub has_redundancy : ℕ

abbrev pub dependency_of : ℕ → Dependency
dependency_of b = record { is_leading_by = b / 64 % 4; depends_on = b / 16 % 4; is_depended_on = b / 4 % 4; has_redundancy = b % 4 }

-- the records of an sdtp: version and flags, then one byte a sample
abbrev pub dependencies_in : List ℕ → List ℕ
dependencies_in s = records_from (length s - 4) 1 s 4

-- 65 without version and flags; none past the last byte
unfoldable pub dependency_at : List ℕ → ℕ → Answer Dependency
dependency_at s k =
    within s
    (refuse_if (ltb (length s) 4) 65
    (none_if (leb (length (dependencies_in s)) k) (given (dependency_of (get_or (dependencies_in s) k 0)))))
