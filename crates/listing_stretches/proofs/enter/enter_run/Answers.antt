-- The five ways of `Entering`: the same index, one that is remembered, the first stretch, a like meaning, another meaning; and what the memory keeps then.
use native.Mathlib.Omega.{arith}
use Rattle.listing_stretches.proofs.Entering.{means-by, recalls-none, keeps-means, recalls-more, enter-join, enter-same, like-means, enter-first, enter-other}
use Rattle.listing_stretches.proofs.enter.enter_run.Goals as goal

pub returns-then-hand-index : goal.returns-then-hand-index
returns-then-hand-index c =
    let a = c.args in
    let held = c.requires.in_hand in
    rw c.joined.ensures (enter-same _ _ c.requires.read_whole.0 _ a.progress a.count a.index.0 held.2 held.0 c.requires.read_whole.2 _ c.if-hand-index.true, held.1)

pub returns-then-remembers : goal.returns-then-remembers
returns-then-remembers c =
    let start = c in
    let a = start.args in
    let held = start.requires.in_hand in
    let alike = keeps-means _ held.1 (rw c.if-remembers.true at c.remembers.ensures) in
    rw c.joined-then-remembers.ensures (enter-join _ _ start.requires.read_whole.0 _ a.progress a.count a.index.0 held.2 held.0 start.requires.read_whole.2 _ alike, held.1)

pub returns-then-hand-eq0 : goal.returns-then-hand-eq0
returns-then-hand-eq0 c =
    let start = c in
    let a = start.args in
    let held = start.requires.in_hand in
    rw c.begun.ensures (
      enter-first _ _ start.requires.read_whole.0 _ a.progress a.count a.index.0 held.2 held.0 start.requires.read_whole.2 c.meaning_at-meaning.ensures c.if-hand-eq0.true,
      recalls-none _ _ _ held.1.places,
    )

pub like-requires : goal.like-requires
like-requires c =
    let start = c in
    let w = start.requires.read_whole.0 in
    let held = start.requires.in_hand.0 in
    (w.head.short, means-by _ _ w held.meant held.known, means-by _ _ w c.meaning_at-meaning.ensures start.requires.read_whole.2)

pub returns-then-like : goal.returns-then-like
returns-then-like c =
    let start = c in
    let a = start.args in
    let w = start.requires.read_whole.0 in
    let held = start.requires.in_hand in
    let alike = like-means _ _ w held.0 c.meaning_at-meaning.ensures start.requires.read_whole.2 (c.like.ensures.same c.if-like.true) in
    rw c.joined-then-like.ensures (
      enter-join _ _ w _ a.progress a.count a.index.0 held.2 held.0 start.requires.read_whole.2 _ alike,
      rw (c.remember.ensures.0, c.remember.ensures.1) (recalls-more _ held.1 alike),
    )

pub put_stretch-at-requires : goal.put_stretch-at-requires
put_stretch-at-requires c =
    let start = c in
    let w = start.requires.read_whole.0 in
    let held = start.requires.in_hand in
    (w.head.short, means-by _ _ w held.0.meant held.0.known, held.4)

pub returns : goal.returns
returns c =
    let start = c in
    let a = start.args in
    let held = start.requires.in_hand in
    let unlike = c.like.ensures.different c.if-like.false in
    rw c.begun-2.ensures (
      enter-other _ _ start.requires.read_whole.0 _ a.progress a.count a.index.0 held.2 held.0 start.requires.read_whole.2 c.meaning_at-meaning.ensures unlike (omega (arith, c.if-hand-eq0.false)) _ _ c.put_stretch-at.ensures,
      recalls-none _ _ _ held.1.places,
    )
