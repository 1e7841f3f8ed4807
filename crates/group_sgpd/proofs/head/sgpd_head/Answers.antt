-- 55, 30, then by version: 31, and the count behind the fields that the version has.
use Rattle.group_sgpd.proofs.Heads.{head_0, head_1, head_2, head_31}
use Rattle.group_sgpd.specs.Sgpd.{version}
use Prim.Native.Nat.{◌≤◌}
use mathlib.Core.Path.{◌≡◌, sym, ◌∙◌}
use native.Mathlib.Omega.{arith}
use borrow.Author.Tests.{lt-ltb, le-ltb}
use Rattle.group_sgpd.proofs.head.sgpd_head.Goals as goal

pub returns-then-n-gt-INPUT_LIMIT : goal.returns-then-n-gt-INPUT_LIMIT
returns-then-n-gt-INPUT_LIMIT c = simp (lt-ltb _ _ c.if-n-gt-INPUT_LIMIT.true)

pub returns-then-n-lt12 : goal.returns-then-n-lt12
returns-then-n-lt12 c = simp (le-ltb _ _ c.if-n-gt-INPUT_LIMIT.false, lt-ltb _ _ c.if-n-lt12.true)

pub returns-then-n-lt16 : goal.returns-then-n-lt16
returns-then-n-lt16 c =
    let s = c.args.s.now in
    let e : c.read_u8-version.result ≡ version s = c.read_u8-version.ensures.0 in
    let l : 2 ≤ version s = omega (arith, c.in_default.in_default-own.rest.0.1, c.in_default.in_default-own.rest.1) in
    sym (head_31 s c.if-n-gt-INPUT_LIMIT.false c.if-n-lt12.false l c.if-n-lt16.true)

pub returns-in-0 : goal.returns-in-0
returns-in-0 c =
    let s = c.args.s.now in
    let e : c.read_u8-version.result ≡ version s = c.read_u8-version.ensures.0 in
    c.count_at.ensures ∙ rw e (sym (head_0 s c.if-n-gt-INPUT_LIMIT.false c.if-n-lt12.false (sym e ∙ c.in-0.is)))

pub returns-in-1 : goal.returns-in-1
returns-in-1 c =
    let s = c.args.s.now in
    let e : c.read_u8-version.result ≡ version s = c.read_u8-version.ensures.0 in
    c.count_at-in-1.ensures
    ∙ rw (e, c.read_u32.ensures.0) (sym (head_1 s c.if-n-gt-INPUT_LIMIT.false c.if-n-lt12.false (sym e ∙ c.in-1.is)))

pub returns-else-n-lt16 : goal.returns-else-n-lt16
returns-else-n-lt16 c =
    let m = c.in_default.in_default-own.rest in
    let s = c.args.s.now in
    let e : c.read_u8-version.result ≡ version s = c.read_u8-version.ensures.0 in
    let l : 2 ≤ version s = omega (arith, m.0.1, m.1) in
    c.count_at-in_default.ensures
    ∙ rw (e, c.read_u32-in_default.ensures.0, c.read_u32-in_default-2.ensures.0) (sym (head_2 s c.if-n-gt-INPUT_LIMIT.false c.if-n-lt12.false l c.if-n-lt16.false))
