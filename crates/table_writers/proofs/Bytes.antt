-- Fields of four bytes, one behind the other: what is stored, and that it is what the bodies hold.
use mathlib.Core.Path.{◌≡◌, refl, ap, sym, ◌∙◌}
use Prim.Native.Nat.{ℕ, suc, ◌+◌, ◌*◌, ◌/◌, ◌%◌, ◌^◌, ◌≤◌, ◌<◌}
use native.Mathlib.Nat.{add-zero, zero-add}
use native.Mathlib.Omega.{arith}
use mathlib.Core.List.{List, [], ◌∷◌, ◌++◌}
use lib.ListN.{length, set, get_or, drop, length-append}
use lib.Seq.{drop-length, sets, sets-eq}
use Rattle.base_fields.specs.Answer.{in_front}
use Rattle.table_rows.specs.Row.{Row, no_row}
use Rattle.table_rows.proofs.RowAt.{from_row}
use Rattle.table_writing.specs.Fields.{Field, field, bit_length, packed, bytes_from}
use Rattle.table_writing.specs.Bodies.{body, row_fields, sbgp_bytes}
use Rattle.table_writing.proofs.Parts.{packed-cut, packed_aligned}
use Rattle.table_writing.proofs.Steps.{packed-word, word_bytes}
use Rattle.table_writers.specs.Words.{word, words, words_of_rows}

-- bytes stored, and more behind them
pub sets_append : (a b : List ℕ) (p : ℕ) (out : List ℕ) → sets out p (a ++ b) ≡ sets (sets out p a) (p + length a) b
sets_append [] b p out = rw add-zero refl
sets_append (x ∷ a) b p out =
    let e : p + suc (length a) ≡ suc p + length a = omega arith in
    rw e (sets_append a b (suc p) (set out p x))

pub sets-front : (bs out : List ℕ) → length bs ≤ length out → sets out 0 bs ≡ in_front bs out
sets-front bs out h = sets-eq bs out 0 (omega arith) ∙ rw zero-add refl

pub words-length : (vs : List ℕ) → length (words vs) ≡ 4 * length vs
unfolding words
words-length [] = refl
words-length (v ∷ vs) = omega (arith, words-length vs)

-- one word more
pub words-first : (v : ℕ) (vs : List ℕ) (p : ℕ) (out : List ℕ) → sets out p (words (v ∷ vs)) ≡ sets (sets out p (word v)) (p + 4) (words vs)
unfolding words
words-first v vs p out = sets_append (word v) (words vs) p out

pub words-none : (p : ℕ) (out : List ℕ) → sets out p (words []) ≡ out
unfolding words
words-none p out = refl

-- two words a row
row_words-length : (rs : List Row) → length (words_of_rows rs) ≡ 2 * length rs
unfolding words_of_rows
row_words-length [] = refl
row_words-length (r ∷ rs) = omega (arith, row_words-length rs)

-- the two words of row k
pub words_row : (rs : List Row) (k : ℕ) → k < length rs → (p : ℕ) (out : List ℕ) →
    sets out p (words (words_of_rows (drop k rs))) ≡ sets (sets (sets out p (word (get_or rs k no_row).count)) (p + 4) (word (get_or rs k no_row).index)) (p + 4 + 4) (words (words_of_rows (drop (k + 1) rs)))
unfolding words_of_rows
words_row rs k h p out =
    let r = get_or rs k no_row in
    let rest = words_of_rows (drop (k + 1) rs) in
    rw (from_row rs k h) (words-first r.count (r.index ∷ rest) p out ∙ words-first r.index rest (p + 4) (sets out p (word r.count)))

pub words-end : (rs : List Row) (k : ℕ) → k ≡ length rs → (p : ℕ) (out : List ℕ) → sets out p (words (words_of_rows (drop k rs))) ≡ out
unfolding words_of_rows
words-end rs k h p out = rw (h, drop-length rs) (words-none p out)

-- the same as fields
abbrev word_fields : List ℕ → List Field
word_fields [] = []
word_fields (v ∷ vs) = field 32 v ∷ word_fields vs

word-bytes : (v : ℕ) → word v ≡ word_bytes 4 v
word-bytes v =
    let a : v / 16777216 % 256 ≡ v / 256 / 256 / 256 % 256 = omega arith in
    let b : v / 65536 % 256 ≡ v / 256 / 256 % 256 = omega arith in
    rw (a, b) refl

-- a word in front of fields
word-packed : (v : ℕ) (fs : List Field) → packed (field 32 v ∷ fs) ≡ word v ++ packed fs
unfolding bit_length
word-packed v fs = packed_aligned 4 (field 32 v ∷ []) fs (omega arith) ∙ ap (λ (b : List ℕ). b ++ packed fs) (packed-word 4 v ∙ sym (word-bytes v))

words-packed : (vs : List ℕ) → packed (word_fields vs) ≡ words vs
unfolding words packed bit_length bytes_from
words-packed [] = refl
words-packed (v ∷ vs) = word-packed v (word_fields vs) ∙ rw (words-packed vs) refl

row_words : (rs : List Row) → row_fields rs ≡ word_fields (words_of_rows rs)
unfolding row_fields words_of_rows
row_words [] = refl
row_words (r ∷ rs) = rw (row_words rs)

-- version and flags, type and count are three words
pub head-packed : (f t n : ℕ) (rest : List Field) → f < 256 → packed (body f t n rest) ≡ words (f ∷ t ∷ n ∷ []) ++ packed rest
unfolding words
head-packed f t n rest small =
    let gs = field 32 t ∷ field 32 n ∷ rest in
    let a : f / 2 ^ 24 ≡ 0 = omega arith in
    let b : f % 2 ^ 24 / 2 ^ 8 ≡ 0 = omega arith in
    let d : f % 2 ^ 24 % 2 ^ 8 ≡ f = omega arith in
    let cut : packed (field 32 f ∷ gs) ≡ packed (field 8 (f / 2 ^ 24) ∷ field 16 (f % 2 ^ 24 / 2 ^ 8) ∷ field 8 (f % 2 ^ 24 % 2 ^ 8) ∷ gs) =
    packed-cut 8 24 f [] gs ∙ packed-cut 16 8 (f % 2 ^ 24) (field 8 (f / 2 ^ 24) ∷ []) gs in
    sym (rw (a, b, d) at cut) ∙ word-packed f gs ∙ rw (word-packed t (field 32 n ∷ rest), word-packed n rest) refl

pub sbgp-words : (t : ℕ) (rs : List Row) → sbgp_bytes t rs ≡ words (0 ∷ t ∷ length rs ∷ []) ++ words (words_of_rows rs)
sbgp-words t rs = head-packed 0 t (length rs) (row_fields rs) (omega arith) ∙ rw (row_words rs, words-packed (words_of_rows rs)) refl

-- head and rows, stored one behind the other, are the sbgp in front of the output
pub sbgp-put : (t : ℕ) (rs : List Row) (out : List ℕ) → 12 + 8 * length rs ≤ length out →
    sets (sets out 0 (words (0 ∷ t ∷ length rs ∷ []))) 12 (words (words_of_rows rs)) ≡ in_front (sbgp_bytes t rs) out
sbgp-put t rs out h =
    let head = words (0 ∷ t ∷ length rs ∷ []) in
    let twelve : length head ≡ 12 = words-length (0 ∷ t ∷ length rs ∷ []) in
    let all : length (head ++ words (words_of_rows rs)) ≡ 12 + 8 * length rs = simp (length-append, words-length, row_words-length) (omega arith) in
    let join : sets out 0 (head ++ words (words_of_rows rs)) ≡ sets (sets out 0 head) 12 (words (words_of_rows rs)) =
    sets_append head (words (words_of_rows rs)) 0 out ∙ ap (λ (p : ℕ). sets (sets out 0 head) p (words (words_of_rows rs))) (omega arith) in
    sym join ∙ sets-front (head ++ words (words_of_rows rs)) out (omega arith) ∙ rw (sbgp-words t rs) refl
