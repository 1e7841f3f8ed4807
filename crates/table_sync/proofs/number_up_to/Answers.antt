-- 55, 65 where the head or a number is missing, then the pass over the numbers.
use Rattle.table_sync.proofs.Cases.{stss-long, stss_headless, stss-cut, number-refused}
use native.Mathlib.Omega.{arith}
use Rattle.table_sync.proofs.number_up_to.Goals as goal

pub returns-then-s-gt-INPUT_LIMIT : goal.returns-then-s-gt-INPUT_LIMIT
returns-then-s-gt-INPUT_LIMIT c = number-refused _ _ (stss-long _ c.if-s-gt-INPUT_LIMIT.true)

pub returns-then-s-lt8 : goal.returns-then-s-lt8
returns-then-s-lt8 c = number-refused _ _ (stss_headless _ c.if-s-gt-INPUT_LIMIT.false c.if-s-lt8.true)

pub returns-then-s-count : goal.returns-then-s-count
returns-then-s-count c = let a = c.args in
    number-refused _ _ (stss-cut a.s.now c.if-s-gt-INPUT_LIMIT.false c.if-s-lt8.false (omega (arith, c.if-s-count.true, c.read_u32-count.ensures.0)))
