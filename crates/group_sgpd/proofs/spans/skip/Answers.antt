-- By what tells the lengths: a product where they are one (`after-fixed`).
use Rattle.group_sgpd.proofs.Entries.{after-fixed}
use borrow.Author.Tests.{lt-ltb, le-ltb}
use lib.ListN.{length}
use Prim.Native.Nat.{◌+◌, ◌*◌, ◌<◌, ◌≤◌}
use native.Mathlib.Nat.{mul-le-mul}
use native.Mathlib.Omega.{arith}
use mathlib.Core.Path.{sym, ◌∙◌}
use Rattle.group_sgpd.proofs.spans.skip.Goals as goal

pub overflow_mul-size : goal.overflow_mul-size
overflow_mul-size c =
    let n = c.args.n in
    let k = c.in-Fixed.k in
    let a : n ≤ 4294967295 = omega arith in
    let b : k ≤ 4294967295 = omega arith in
    omega (arith, mul-le-mul a b)

pub returns-then-s-at : goal.returns-then-s-at
returns-then-s-at c =
    let a = c.args in
    let k = c.in-Fixed.k in
    let h : length a.s.now < a.at + a.n * k = omega arith in
    sym (after-fixed a.s.now (sym c.requires.among.lengths ∙ c.in-Fixed.is) a.n a.at (omega arith) ∙ simp (lt-ltb _ _ h))

pub skip_prefixed-requires : goal.skip_prefixed-requires
skip_prefixed-requires c = let o = c.requires.among in rw (← o.count, ← c.in-Prefixed.is) o

pub skip_shared-requires : goal.skip_shared-requires
skip_shared-requires c = record { among = rw c.in-Shared.is at c.requires.among; n_le_count = c.requires.n_le_count }

pub returns-else-s-at : goal.returns-else-s-at
returns-else-s-at c =
    let a = c.args in
    let k = c.in-Fixed.k in
    let h : a.at + a.n * k ≤ length a.s.now = omega arith in
    sym (after-fixed a.s.now (sym c.requires.among.lengths ∙ c.in-Fixed.is) a.n a.at (omega arith) ∙ simp (le-ltb _ _ h))
