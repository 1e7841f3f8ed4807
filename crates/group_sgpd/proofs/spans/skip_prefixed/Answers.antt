use Rattle.group_sgpd.proofs.Entries.{span_at_as, after-step, after-refused}
use Rattle.base_fields.specs.Number.{be_at}
use borrow.Author.Tests.{lt-ltb, le-ltb}
use Rattle.group_sgpd.specs.Head.{after}
use lib.ListN.{length}
use native.Mathlib.Omega.{arith}
use Prim.Native.Nat.{◌+◌, ◌-◌, ◌≤◌, ◌<◌}
use mathlib.Core.Path.{◌≡◌, refl, sym, ◌∙◌}
use Rattle.group_sgpd.proofs.spans.skip_prefixed.Goals as goal

pub loop-init : goal.loop-init
loop-init c =
    let a = c.args in
    let e : length a.s.now - (length a.s.now - a.at) ≡ a.at = omega (arith, c.requires.inside) in
    let all : a.n - 0 ≡ a.n = omega arith in
    (omega arith, rw (e, all) refl)

pub returns-then-bytes-lt4 : goal.returns-then-bytes-lt4
returns-then-bytes-lt4 c =
    let s = c.args.s.now in
    let h : length s < length s - c.loop.bytes + 4 = omega arith in
    sym (c.loop.invariant.1 ∙ after-refused s _ _ (omega (arith, c.loop-test.true)) (span_at_as s _ c.requires.lengths refl ∙ simp (lt-ltb _ _ h)))

pub returns-then-bytes-size : goal.returns-then-bytes-size
returns-then-bytes-size c =
    let s = c.args.s.now in
    let p = length s - c.loop.bytes in
    let size : c.read_u32-size.result ≡ be_at 4 s p = c.read_u32-size.ensures.0 in
    let h : p + 4 ≤ length s = omega arith in
    let l : length s < p + 4 + be_at 4 s p = omega (arith, size) in
    sym (c.loop.invariant.1 ∙ after-refused s _ _ (omega (arith, c.loop-test.true)) (span_at_as s _ c.requires.lengths refl ∙ simp (le-ltb _ _ h, lt-ltb _ _ l)))

pub loop-preserved : goal.loop-preserved
loop-preserved c =
    let s = c.args.s.now in
    let p = length s - c.loop.bytes in
    let size : c.read_u32-size.result ≡ be_at 4 s p = c.read_u32-size.ensures.0 in
    let h : p + 4 ≤ length s = omega arith in
    let l : p + 4 + be_at 4 s p ≤ length s = omega (arith, size) in
    let e : length s - (c.loop.bytes - 4 - c.read_u32-size.result) ≡ p + 4 + be_at 4 s p = omega (arith, size) in
    let one : c.args.n - (c.loop.counter + 1) ≡ c.args.n - c.loop.counter - 1 = omega arith in
    (omega arith, rw (e, one) (c.loop.invariant.1 ∙ after-step s _ _ (omega (arith, c.loop-test.true)) (span_at_as s _ c.requires.lengths refl ∙ simp (le-ltb _ _ h, le-ltb _ _ l))))

pub returns : goal.returns
unfolding after
returns c = let z : c.args.n - c.loop.counter ≡ 0 = omega arith in sym (c.loop.invariant.1 ∙ rw z refl)
