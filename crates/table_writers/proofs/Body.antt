-- The csgp's head, pairs and indices, put one behind the other, are its bytes in front of the output.
use mathlib.Core.Path.{◌≡◌, refl, ap, ◌∙◌}
use Prim.Native.Nat.{ℕ, ◌+◌, ◌*◌, ◌/◌, ◌≤◌, ◌<◌}
use native.Mathlib.Nat.{add-mul, mul_comm, mul_left_comm}
use native.Mathlib.Omega.{arith}
use mathlib.Core.Bool.{Bool}
use mathlib.Core.List.{List, [], ◌∷◌, append-nil}
use lib.Dec.{ltb}
use lib.ListN.{length}
use lib.Seq.{sets, length-sets}
use Rattle.base_fields.specs.Answer.{in_front}
use Rattle.base_fields.specs.Number.{field_bound}
use Rattle.table_csgp_head.specs.Csgp.{width_of}
use Rattle.table_rows.specs.Row.{Row}
use Rattle.table_writing.specs.Fields.{bit_length, bytes_from, packed}
use Rattle.table_writing.specs.Bodies.{body, code_for, count_code, index_needs, index_code, flags_of, pair_fields, csgp_bytes}
use Rattle.table_writing.specs.Remaining.{largest_count, marked}
use Rattle.table_rows.proofs.Choice.{either}
use Rattle.table_writing.proofs.Marks.{flag-parts}
use Rattle.table_writing.proofs.Csgp.{csgp-length}
use Rattle.table_writing.proofs.Put.{put-free}
use Rattle.table_writers.specs.Words.{words}
use Rattle.table_writers.specs.Halves.{PutsRuns, pairs_put, indices_put}
use Rattle.table_writers.proofs.Bytes.{sets-front, words-length, head-packed}
use Rattle.table_writers.proofs.Halves.{pairs-length, pairs-bits, pairs-put, indices-put}

pub code-small : (n : ℕ) → code_for n < 4
unfolding code_for
code-small n =
    let P : ℕ → Type 0 = λ k. k < 4 in
    either P (ltb n 16) (λ _. omega arith) (λ _. either P (ltb n 256) (λ _. omega arith) (λ _. either P (ltb n 65536) (λ _. omega arith) (λ _. omega arith)))

-- four bits a half byte
pub four : (n a b : ℕ) → n * (4 + 4 * a + 4 * b) ≡ 4 * (n * (1 + a + b))
four n a b =
    let e : 4 + 4 * a + 4 * b ≡ 4 * (1 + a + b) = omega arith in
    rw e (mul_left_comm n 4 (1 + a + b))

packed_none : packed [] ≡ []
unfolding packed bytes_from bit_length
packed_none = refl

-- mc half bytes a count, mi an index
module _ (t : ℕ) (rs : List Row) (mc mi : ℕ) (cw : 4 * mc ≡ width_of (count_code rs)) (iw : 4 * mi ≡ width_of (index_code rs)) (out : List ℕ)
    (room : length (csgp_bytes t rs) ≤ length out) (few : largest_count rs < field_bound) (thin : mc ≤ 8) (lean : mi ≤ 8) where
  space : 24 + (1 + mc) * length rs + mi * length rs ≤ 2 * length out
  space =
      let n = length rs in
      let a : length (csgp_bytes t rs) ≡ 12 + (n * (4 + 4 * mc + 4 * mi) + 7) / 8 = csgp-length t rs ∙ rw (cw, iw) refl in
      let b : n * (1 + mc + mi) ≡ (1 + mc) * n + mi * n = mul_comm n (1 + mc + mi) ∙ add-mul (1 + mc) mi n in
      omega (arith, four n mc mi)

  module _ (f n : ℕ) (flags : f ≡ flags_of rs) (count : n ≡ length rs) {headed : List ℕ} (e : headed ≡ sets out 0 (words (f ∷ t ∷ n ∷ []))) where
    head-front : headed ≡ in_front (packed (body (flags_of rs) t (length rs) [])) out
    head-front =
        let vs = flags_of rs ∷ t ∷ length rs ∷ [] in
        let small : flags_of rs < 256 = (flag-parts (marked rs) _ _ (code-small (largest_count rs)) (code-small (index_needs rs))).small in
        let bytes : packed (body (flags_of rs) t (length rs) []) ≡ words vs = head-packed (flags_of rs) t (length rs) [] small ∙ rw packed_none (append-nil (words vs)) in
        e ∙ rw (flags, count, bytes) (sets-front (words vs) out (omega (arith, words-length vs, space)))

    pub pairs-ready : PutsRuns rs (1 + mc) mc 24 headed
    pairs-ready =
        let same : length headed ≡ length out = ap length e ∙ length-sets out 0 (words (f ∷ t ∷ n ∷ [])) in
        record { counts = few; room = omega (arith, space); width = thin; free = λ odd. absurd (omega arith) }

    module _ {paired : List ℕ} (d : paired ≡ pairs_put mc 24 rs headed) (h : ℕ) (behind : h ≡ 24 + (1 + mc) * length rs) where
      pairs-front : paired ≡ in_front (packed (body (flags_of rs) t (length rs) (pair_fields (4 * mc) rs))) out
      unfolding bit_length
      pairs-front = d ∙ rw head-front (pairs-put mc out rs (body (flags_of rs) t (length rs) []) 24 refl (omega (arith, space)))

      place : bit_length (body (flags_of rs) t (length rs) (pair_fields (4 * mc) rs)) ≡ 4 * h
      unfolding bit_length
      place = omega (arith, pairs-bits mc out rs)

      pub indices-ready : PutsRuns rs mi mi h paired
      indices-ready =
          let same : length paired ≡ length out = ap length d ∙ pairs-length mc 24 rs headed ∙ ap length e ∙ length-sets out 0 (words (f ∷ t ∷ n ∷ [])) in
          record { counts = few; room = omega (arith, space); width = lean; free = rw pairs-front (put-free _ h place out) }

      pub all-put : {marks : Bool} {after : List ℕ} → marks ≡ marked rs → after ≡ indices_put marks mi h rs paired → after ≡ in_front (csgp_bytes t rs) out
      all-put same i =
          let whole = body (flags_of rs) t (length rs) (pair_fields (4 * mc) rs) in
          i ∙ rw (same, pairs-front, ← cw, ← iw) (indices-put mi out (marked rs) rs whole h place (omega (arith, space)))
