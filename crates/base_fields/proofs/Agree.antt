-- Two lists of bytes side by side: where their bytes, or their bits, are the same, so are the numbers and the parts there.
use mathlib.Core.Path.{◌≡◌, refl, sym, ◌∙◌}
use mathlib.Core.Logic.{◌⊎◌, inl, inr}
use mathlib.Core.List.{List}
use Prim.Native.Nat.{ℕ, zero, suc, ◌+◌, ◌-◌, ◌*◌, ◌/◌, ◌%◌, ◌^◌, ◌<◌, ◌≤◌}
use native.Mathlib.Nat.{zero-div, zero-mod}
use native.Mathlib.Decide.{dec_lt}
use native.Mathlib.Omega.{arith}
use lib.ListN.{length, get_or, take, drop, length-take, length-drop, get_or-eq_default}
use lib.Seq.{get_or-take, get_or-drop, ext_get_or}
use Rattle.base_fields.specs.Answer.{Answer, given, none, refused}
use Rattle.base_fields.specs.Number.{be_at, bit_at, bits_at}
use Rattle.base_fields.specs.Span.{Span, bytes_at, part_of}
use Rattle.base_fields.proofs.Bits.{Bytes, bytes_as_bits}
use Rattle.base_fields.proofs.Bytes.{be_at-one}

-- the bytes from place i on, before j, are the same
abbrev pub SameBytes : List ℕ → List ℕ → ℕ → ℕ → Type 0
SameBytes a b i j = (k : ℕ) → i ≤ k → k < j → get_or a k 0 ≡ get_or b k 0

-- the bits from i on, before j, are the same
abbrev pub Same : List ℕ → List ℕ → ℕ → ℕ → Type 0
Same a b i j = (k : ℕ) → i ≤ k → k < j → bit_at a k ≡ bit_at b k

-- numbers of w bytes are equal exactly where their bytes are
pub be_of_bytes : (w : ℕ) (a b : List ℕ) (p : ℕ) → SameBytes a b p (p + w) → be_at w a p ≡ be_at w b p
unfolding be_at
be_of_bytes zero a b p o = refl
be_of_bytes (suc w) a b p o =
    let high = be_of_bytes w a b p (λ i h l. o i h (omega arith)) in
    let low = o (p + w) (omega arith) (omega arith) in
    rw (high, low) refl

pub bytes-of_be : (w : ℕ) (a b : List ℕ) (p : ℕ) → Bytes a → Bytes b → be_at w a p ≡ be_at w b p → SameBytes a b p (p + w)
unfolding be_at
bytes-of_be zero a b p ba bb e i h l = absurd (omega arith)
bytes-of_be (suc w) a b p ba bb e i h l =
    let high : be_at w a p ≡ be_at w b p = omega (arith, ba (p + w), bb (p + w)) in
    let low : get_or a (p + w) 0 ≡ get_or b (p + w) 0 = omega (arith, ba (p + w), bb (p + w)) in
    elim (dec_lt i (p + w)) [
      | yes m ↦ bytes-of_be w a b p ba bb high i h m
      | no m ↦ let q : i ≡ p + w = omega arith in rw q low
    ]

-- numbers of w bits
pub bits-same : (w : ℕ) (a b : List ℕ) (p : ℕ) → Same a b p (p + w) → bits_at w a p ≡ bits_at w b p
unfolding bits_at
bits-same zero a b p h = refl
bits-same (suc w) a b p h = rw (bits-same w a b p (λ k l m. h k l (omega arith)), h (p + w) (omega arith) (omega arith))

-- numbers of w bytes, by their bits
pub be_same : (w : ℕ) (a b : List ℕ) (p : ℕ) → Bytes a → Bytes b → Same a b (8 * p) (8 * (p + w)) → be_at w a p ≡ be_at w b p
be_same w a b p ba bb h =
    sym (bytes_as_bits w a p ba) ∙ bits-same (8 * w) a b (8 * p) (λ k l m. h k l (omega arith)) ∙ bytes_as_bits w b p bb

module _ (a b : List ℕ) where
  -- bits are the same where their bytes are, and bytes where their bits are
  pub bit-of_byte : (i : ℕ) → get_or a (i / 8) 0 ≡ get_or b (i / 8) 0 → bit_at a i ≡ bit_at b i
  unfolding bit_at
  bit-of_byte i e = rw e refl

  pub bits_of_bytes : (i j : ℕ) → SameBytes a b i j → Same a b (8 * i) (8 * j)
  bits_of_bytes i j h k l m = bit-of_byte k (h (k / 8) (omega arith) (omega arith))

  pub bytes-of-bits : Bytes a → Bytes b → (i j : ℕ) → Same a b (8 * i) (8 * j) → SameBytes a b i j
  bytes-of-bits ba bb i j h k l m = sym (be_at-one a k) ∙ be_same 1 a b k ba bb (λ n u v. h n (omega arith) (omega arith)) ∙ be_at-one b k

  module _ (long : length a ≡ length b) where
    -- lists of one length
    pub all_same : SameBytes a b 0 (length a) → a ≡ b
    all_same h = ext_get_or 0 a b long (λ k l. h k (omega arith) l)

    -- parts at the same place
    pub part_length : (e : Span) → length (bytes_at a e) ≡ length (bytes_at b e)
    part_length e = simp (length-take, length-drop, long)

    pub part_same : (e : Span) → SameBytes a b e.place (e.place + e.size) → bytes_at a e ≡ bytes_at b e
    part_same e h =
        let short : length (bytes_at a e) ≤ e.size = simp length-take (omega arith) in
        ext_get_or 0 (bytes_at a e) (bytes_at b e) (part_length e) (λ k l.
        let m : k < e.size = omega arith in
        rw (get_or-take e.size (drop e.place a) k 0 m, get_or-take e.size (drop e.place b) k 0 m, get_or-drop e.place a k 0, get_or-drop e.place b k 0)
        (h (e.place + k) (omega arith) (omega arith)))

    -- the part that an answer names
    pub part_of-same : (told : Answer Span) → ((e : Span) → told ≡ given e → SameBytes a b e.place (e.place + e.size)) → part_of a told ≡ part_of b told
    part_of-same (given e) h = part_same e (h e refl)
    part_of-same none h = refl
    part_of-same (refused n) h = refl

-- bit i of the part of n bytes from place p
pub part-bit : (s : List ℕ) (p n i : ℕ) → i < 8 * n → bit_at (take n (drop p s)) i ≡ bit_at s (8 * p + i)
unfolding bit_at
part-bit s p n i h =
    let d : (8 * p + i) / 8 ≡ p + i / 8 = omega arith in
    let m : (8 * p + i) % 8 ≡ i % 8 = omega arith in
    let l : i / 8 < n = omega arith in
    rw (d, m, get_or-take n (drop p s) (i / 8) 0 l, get_or-drop p s (i / 8) 0)

pub bit_past : (s : List ℕ) (i : ℕ) → 8 * length s ≤ i → bit_at s i ≡ 0
unfolding bit_at
bit_past s i h = let l : length s ≤ i / 8 = omega arith in rw (get_or-eq_default s 0 l) (zero_shift (2 ^ (7 - i % 8)))
  where
    zero_shift : (k : ℕ) → 0 / k % 2 ≡ 0
    zero_shift k = rw (zero-div k) (zero-mod 2)

-- parts in which each bit is the same, or one of which P holds
pub part-bits : (P : ℕ → Type 0) (a b : List ℕ) (p n : ℕ) → ((j : ℕ) → j < 8 * n → (bit_at a (8 * p + j) ≡ bit_at b (8 * p + j)) ⊎ P j)
    → (i : ℕ) → (bit_at (take n (drop p a)) i ≡ bit_at (take n (drop p b)) i) ⊎ P i
part-bits P a b p n h i =
    elim (dec_lt i (8 * n)) [
      | yes l ↦ elim (h i l) [ inl e ↦ inl (part-bit a p n i l ∙ e ∙ sym (part-bit b p n i l)) | inr x ↦ inr x ]
      | no l ↦
          let short : length (take n (drop p a)) ≤ n = simp length-take (omega arith) in
          let short' : length (take n (drop p b)) ≤ n = simp length-take (omega arith) in
          inl (bit_past (take n (drop p a)) i (omega arith) ∙ sym (bit_past (take n (drop p b)) i (omega arith)))
    ]
