use native.Mathlib.Omega.{arith}
use Prim.Native.Nat.{ℕ, ◌+◌, ◌-◌, ◌*◌, ◌/◌, ◌≤◌, ◌<◌}
use lib.ListN.{length, get_or, take, length-set}
use lib.Seq.{slice, length-take-le, take-take}
use mathlib.Core.List.{List, ◌∷◌, ◌++◌, append-nil}
use mathlib.Core.Path.{◌≡◌, refl, ap, sym, ◌∙◌}
use Rattle.test_vector_lines.specs.Lines.{digit_of, written}
use Rattle.test_vector_lines.proofs.Laws.{written-first, high_wrong, low_wrong, both_right, written-end, digits_end, put_next, size-short, size_none, size-all}
use Rattle.test_vector_lines.proofs.text.decode.Goals as goal

pub returns-then-bytes-n : goal.returns-then-bytes-n
returns-then-bytes-n c =
    let a = c.args in
    let l = c.loop-n in
    let t = a.text.now in
    let at = a.from + 2 * l.n in
    let p = take l.n l.bytes in
    let more : at + 1 < a.to = omega arith in
    let k : a.to ≤ length t = omega arith in
    let w = written-first t at a.to more k in
    let full : length a.bytes.now ≤ length p = omega (arith, length-take-le l.n l.bytes l.invariant.0) in
    record {
      size = sym (size-short (slice a.from a.to t) p _ _ (length a.bytes.now) (l.invariant.2 ∙ ap (λ (x : List ℕ). p ++ x) w) full);
      content = refl;
    }

pub returns-then-high-gt15 : goal.returns-then-high-gt15
returns-then-high-gt15 c =
    let a = c.args in
    let l = c.loop-n in
    let t = a.text.now in
    let at = a.from + 2 * l.n in
    let more : at + 1 < a.to = omega arith in
    let k : a.to ≤ length t = omega arith in
    let b : 15 < digit_of (get_or t at 0) = omega arith in
    record { size = sym (size_none (slice a.from a.to t) _ (l.invariant.1 ∙ high_wrong t at a.to more k b)); content = refl }

pub returns-then-low-gt15 : goal.returns-then-low-gt15
returns-then-low-gt15 c =
    let a = c.args in
    let l = c.loop-n in
    let t = a.text.now in
    let at = a.from + 2 * l.n in
    let more : at + 1 < a.to = omega arith in
    let k : a.to ≤ length t = omega arith in
    let b : 15 < digit_of (get_or t (at + 1) 0) = omega arith in
    record { size = sym (size_none (slice a.from a.to t) _ (l.invariant.1 ∙ low_wrong t at a.to more k b)); content = refl }

pub loop-n-preserved : goal.loop-n-preserved
loop-n-preserved c =
    let a = c.args in
    let l = c.loop-n in
    let t = a.text.now in
    let at = a.from + 2 * l.n in
    let more : at + 1 < a.to = omega arith in
    let k : a.to ≤ length t = omega arith in
    let b : digit_of (get_or t at 0) ≤ 15 = omega arith in
    let d : digit_of (get_or t (at + 1) 0) ≤ 15 = omega arith in
    let v = c.digit-high.result * 16 + c.digit-low.result in
    let e : digit_of (get_or t at 0) * 16 + digit_of (get_or t (at + 1) 0) ≡ v = omega arith in
    let next : a.from + 2 * (l.n + 1) ≡ at + 2 = omega arith in
    let rest = written (slice (at + 2) a.to t) in
    let room : l.n < length l.bytes = omega arith in
    let w = written-first t at a.to more k ∙ ap (λ (x : ℕ). x ∷ rest) e in
    rw next (
      simp length-set (omega arith),
      l.invariant.1 ∙ both_right t at a.to more k b d,
      l.invariant.2 ∙ ap (λ (x : List ℕ). take l.n l.bytes ++ x) w ∙ put_next l.bytes rest l.n v room,
    )

pub returns : goal.returns
returns c =
    let a = c.args in
    let l = c.loop-n in
    let t = a.text.now in
    let at = a.from + 2 * l.n in
    let over : a.to ≤ at + 1 = omega arith in
    let k : a.to ≤ length t = omega arith in
    let s = slice a.from a.to t in
    let p = take l.n l.bytes in
    let d = l.invariant.1 ∙ digits_end t at a.to over k in
    let w : written s ≡ p = l.invariant.2 ∙ ap (λ (x : List ℕ). p ++ x) (written-end t at a.to over k) ∙ append-nil p in
    let n : length (written s) ≡ l.n = ap length w ∙ length-take-le l.n l.bytes l.invariant.0 in
    let same : (a.to - a.from) / 2 ≡ l.n = omega arith in
    rw same (record {
      size = sym (size-all s l.n (length a.bytes.now) d n (omega arith));
      content = sym (ap (take l.n) w ∙ take-take l.n l.n l.bytes (omega arith));
    })
