use Rattle.group_sgpd.proofs.Entries.{after-refused, after-some}
use Rattle.group_sgpd.proofs.Shares.{shares-inside, share-none, shares-passed}
use native.Mathlib.Nat.{div-le_self, div-add-mod'}
use Rattle.group_sgpd.specs.Head.{after}
use lib.ListN.{length}
use native.Mathlib.Omega.{arith}
use Prim.Native.Nat.{◌+◌, ◌-◌, ◌*◌, ◌/◌, ◌%◌, ◌≤◌, ◌<◌}
use mathlib.Core.Path.{◌≡◌, refl, sym, ◌∙◌}
use borrow.Author.Rules.{rules}
use Rattle.group_sgpd.proofs.spans.skip_shared.Goals as goal
use Rattle.group_sgpd.proofs.spans.skip_shared.Goals.{After-row_known-1, then-left-alike, else-left-alike}

-- how many entries are passed at once: one at least, of those left, and of one share
few : (c : After-row_known-1) →
    (c.if-left-alike.passed ≤ c.loop-left.left)
    × (c.if-left-alike.passed ≤ c.loop-left.bytes % c.args.count / (c.loop-left.bytes / c.args.count) + 1)
    × (0 < c.if-left-alike.passed)
few c =
    elim c.if-left-alike.branch [
      | then-left-alike w ↦ (omega (arith, w.passed-is), omega (arith, w.passed-is, w.if-left-alike.true), omega (arith, w.passed-is))
      | else-left-alike w ↦ (omega (arith, w.passed-is, w.if-left-alike.false), omega (arith, w.passed-is), omega (arith, w.passed-is))
    ]

fit : (c : After-row_known-1) →
    c.if-left-alike.passed * (c.loop-left.bytes / c.args.count) ≤ c.loop-left.bytes
fit c = shares-inside _ _ _ (omega arith) (few c).1

pub loop-left-init : goal.loop-left-init
loop-left-init c =
    let a = c.args in
    let e : length a.s.now - (length a.s.now - a.at) ≡ a.at = omega (arith, c.requires.among.inside) in
    (search rules, search rules, rw e refl)

pub returns-then-share-eq0 : goal.returns-then-share-eq0
returns-then-share-eq0 c =
    let s = c.args.s.now in
    let e : length s - (length s - c.loop-left.bytes) ≡ c.loop-left.bytes = omega (arith, c.loop-left.invariant.0) in
    sym (c.loop-left.invariant.2 ∙ after-refused s _ _ c.loop-left-test.true (share-none s (sym c.requires.among.lengths) c.requires.among.count _ e c.if-share-eq0.true))

pub overflow_add-alike : goal.overflow_add-alike
overflow_add-alike c =
    let b = c.loop-left.bytes in
    let n = c.args.count in
    omega (arith, div-le_self (b % n) (b / n), div-add-mod' b n)

pub overflow_mul-bytes : goal.overflow_mul-bytes
overflow_mul-bytes c = omega (arith, fit c)

pub overflow_sub-bytes-in-loop-left : goal.overflow_sub-bytes-in-loop-left
overflow_sub-bytes-in-loop-left c = fit c

pub overflow_sub-left : goal.overflow_sub-left
overflow_sub-left c = (few c).0

pub loop-left-smaller : goal.loop-left-smaller
loop-left-smaller c = omega (arith, (few c).0, (few c).2)

pub loop-left-preserved : goal.loop-left-preserved
loop-left-preserved c =
    let s = c.args.s.now in
    let b = c.loop-left.bytes in
    let m = c.if-left-alike.passed in
    let q = b / c.args.count in
    let o = c.requires.among in
    let e : length s - (length s - b) ≡ b = omega (arith, c.loop-left.invariant.0) in
    let f : length s - (b - m * q) ≡ length s - b + m * q = omega (arith, fit c, c.loop-left.invariant.0) in
    let there = shares-passed s (sym o.lengths) o.count m (length s - b) e (omega arith) (omega (arith, c.if-share-eq0.false)) (few c).1 in
    (search rules, search rules, rw f (c.loop-left.invariant.2 ∙ after-some s m c.loop-left.left (length s - b) (few c).0 there))

pub returns : goal.returns
unfolding after
returns c = let z : c.loop-left.left ≡ 0 = omega arith in sym (c.loop-left.invariant.2 ∙ rw z refl)
