-- Stored vectors: what the bytes of a record mean, and what a line of text writes. A byte past the end counts as 0.
use Rattle.std.specs.Prelude.{ℕ, suc, ◌+◌, ◌-◌, ◌*◌, ◌/◌, ◌%◌, Bool, true, not, ◌&&◌, ◌||◌, List, [], ◌∷◌, ltb, leb, eqb, length, get_or, take, drop}
use Rattle.base_fields.specs.Answer.{choose}
use Rattle.base_fields.specs.Number.{be_at}

-- argument k: 0 where the record counts no such argument, or ends before its last byte
unfoldable pub argument_of : List ℕ → ℕ → ℕ
argument_of s k = choose (leb (get_or s 1 0) k) 0 (choose (ltb (length s) (2 + 8 * k + 8)) 0 (be_at 8 s (2 + 8 * k)))

-- the input stands behind the arguments and the two bytes of its length
abbrev pub input_place : List ℕ → ℕ
input_place s = 4 + 8 * get_or s 1 0

abbrev pub input_size : List ℕ → ℕ
input_size s = 256 * get_or s (2 + 8 * get_or s 1 0) 0 + get_or s (3 + 8 * get_or s 1 0) 0

abbrev pub input_of : List ℕ → List ℕ
input_of s = take (input_size s) (drop (input_place s) s)

-- status, count of numbers, numbers
abbrev pub answer_of : List ℕ → List ℕ
answer_of s = drop (input_place s + input_size s) s

abbrev pub numbers_of : List ℕ → List ℕ
numbers_of s = drop 2 (answer_of s)

-- an answer that is whole and has this status; with another status than 0 it has no numbers
unfoldable pub told_status : List ℕ → ℕ → Bool
told_status a status =
    eqb (length a % 8) 2 && (eqb (get_or a 1 0) (length a / 8) && ((eqb status 0 || eqb (length a) 2) && eqb (get_or a 0 0) status))

abbrev pub same_status : List ℕ → ℕ → Bool
same_status s status = told_status (answer_of s) status

-- the numbers of 8 bytes from place p on are those of the list
unfoldable pub numbers_from : List ℕ → ℕ → List ℕ → Bool
numbers_from s p [] = true
numbers_from s p (n ∷ ns) = eqb (be_at 8 s p) n && numbers_from s (p + 8) ns

-- as many numbers of 8 bytes as the list has, and the same
unfoldable pub same_numbers : List ℕ → List ℕ → Bool
same_numbers s ns = eqb (length s / 8) (length ns) && numbers_from s 0 ns

-- the record has this status and, with 0, these numbers
abbrev pub agrees_with : List ℕ → ℕ → List ℕ → Bool
agrees_with s status ns = same_status s status && (not (eqb status 0) || same_numbers (numbers_of s) ns)

-- how many bytes stand before the first line end
unfoldable pub line_length : List ℕ → ℕ
line_length [] = 0
line_length (b ∷ bs) = choose (eqb b 10) 0 (suc (line_length bs))

-- the value of a hexadecimal digit, in lower case; 16 for any other byte
unfoldable pub digit_of : ℕ → ℕ
digit_of b = choose (leb 48 b && leb b 57) (b - 48) (choose (leb 97 b && leb b 102) (b - 87) 16)

-- the bytes that pairs of digits write; a last digit without a partner writes none
unfoldable pub written : List ℕ → List ℕ
written [] = []
written (h ∷ []) = []
written (h ∷ l ∷ s) = (digit_of h * 16 + digit_of l) ∷ written s

-- every byte of the pairs is a digit
unfoldable pub are_digits : List ℕ → Bool
are_digits [] = true
are_digits (h ∷ []) = true
are_digits (h ∷ l ∷ s) = leb (digit_of h) 15 && (leb (digit_of l) 15 && are_digits s)

-- how many bytes are decoded into `room`: all that are written or, where a byte is no digit or the room is short, none
unfoldable pub decoded_size : List ℕ → ℕ → ℕ
decoded_size s room = choose (are_digits s && leb (length (written s)) room) (length (written s)) 0
