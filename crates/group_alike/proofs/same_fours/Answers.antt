-- The first four bytes and the last four as numbers.
use mathlib.Core.Path.{◌≡◌, sym, ◌∙◌}
use Prim.Native.Nat.{ℕ, ◌-◌, zero-le}
use native.Mathlib.Decide.{dec_lt}
use native.Mathlib.Omega.{arith}
use borrow.Author.Tests.{eqb-true, eqb-false}
use Rattle.base_fields.proofs.Bits.{Bytes}
use Rattle.base_fields.proofs.Agree.{be_of_bytes, bytes-of_be}
use Rattle.group_alike.proofs.same_fours.Goals as goal

pub returns-then-read_u32 : goal.returns-then-read_u32
returns-then-read_u32 c =
    record {
      same = λ e. let z : ◌≡◌ {A = ℕ} 0 1 = cc in absurd (omega arith);
      different = λ e o. c.if-read_u32.true (c.read_u32.ensures.0 ∙ be_of_bytes 4 _ _ 0 (λ k h l. o k h (omega arith)) ∙ sym c.read_u32-2.ensures.0);
    }

pub returns : goal.returns
returns c =
    let s = c.args in
    let a = s.a.now in
    let b = s.b.now in
    let n = s.n in
    let bytes-a : Bytes a = λ k. (c.type_inv.a k).fits in
    let bytes-b : Bytes b = λ k. (c.type_inv.b k).fits in
    let front = bytes-of_be 4 a b 0 bytes-a bytes-b (sym c.read_u32.ensures.0 ∙ c.if-read_u32.false ∙ c.read_u32-2.ensures.0) in
    record {
      same = λ e k h l. elim (dec_lt k 4) [
        | yes m ↦ front k h m
        | no m ↦ bytes-of_be 4 a b (n - 4) bytes-a bytes-b (sym c.read_u32-3.ensures.0 ∙ eqb-true _ _ e ∙ c.read_u32-4.ensures.0) k (omega arith) (omega arith)
      ];
      different = λ e o. eqb-false _ _ e (c.read_u32-3.ensures.0 ∙ be_of_bytes 4 a b (n - 4) (λ k h l. o k zero-le (omega arith)) ∙ sym c.read_u32-4.ensures.0);
    }
