use Rattle.table_sync.proofs.Cases.{none_passed, one-falls, one-passed, passed-before, all-passed, stss-falls, stss-rises, number-given, number-refused}
use Rattle.table_sync.proofs.Records.{record_count, record_at}
use Rattle.table_sync.specs.Sync.{numbers_in}
use Rattle.base_fields.specs.Number.{be_at}
use lib.ListN.{length, get_or}
use native.Mathlib.Omega.{arith}
use Prim.Native.Nat.{◌+◌, ◌*◌, ◌≤◌}
use mathlib.Core.Path.{◌≡◌, sym, ◌∙◌}
use Rattle.table_sync.proofs.last_number.Goals as goal
use Rattle.table_sync.proofs.last_number.Goals.{After-read_u32-number, At-loop-k}

-- a number of the table
number : (c : After-read_u32-number)
    → let a = c.args in get_or (numbers_in a.s.now) c.loop-k.k 0 ≡ c.read_u32-number.result
number c =
    let s = c.args.s.now in
    record_at 4 s (be_at 4 s 4) 8 c.loop-k.k (omega (arith, c.loop-k-test.true, c.requires.2)) ∙ sym c.read_u32-number.ensures.0

-- how many there are
numbers : (c : At-loop-k) → let a = c.args in length (numbers_in a.s.now) ≡ a.count
numbers c = let s = c.args.s.now in record_count 4 s (be_at 4 s 4) 8 ∙ sym c.requires.2

-- all of them are there
there : (c : At-loop-k) → let s = c.args.s.now in 8 + 4 * be_at 4 s 4 ≤ length s
there c = omega (arith, c.requires.0, c.requires.2)

pub loop-k-init : goal.loop-k-init
loop-k-init c = (omega arith, none_passed _ _)

pub overflow_mul-k : goal.overflow_mul-k
overflow_mul-k c = omega (arith, c.requires.0, c.requires.1, c.loop-k-test.true)

pub overflow_add-k : goal.overflow_add-k
overflow_add-k c = omega (arith, c.requires.0, c.requires.1, c.loop-k-test.true)

pub read_u32-number-requires : goal.read_u32-number-requires
read_u32-number-requires c = omega (arith, c.requires.0, c.loop-k-test.true)

pub returns-then-number-least : goal.returns-then-number-least
returns-then-number-least c = let s = c.args.s.now in
    number-refused s c.args.limit
    (stss-falls s c.requires.1 (there (goal.at.returns-then-number-least c).At-loop-k)
    (one-falls c.args.limit _ c.loop-k.invariant.1 (omega (arith, numbers (goal.at.returns-then-number-least c).At-loop-k, c.loop-k-test.true)) (omega (arith, number (goal.at.returns-then-number-least c).After-read_u32-number, c.if-number-least.true))))

pub loop-k-preserved : goal.loop-k-preserved
loop-k-preserved c = let next = one-passed c.args.limit _ c.loop-k.invariant.1 (omega (arith, numbers (goal.at.loop-k-preserved c).At-loop-k, c.loop-k-test.true)) (omega (arith, number (goal.at.loop-k-preserved c).After-read_u32-number, c.if-number-least.false)) in
    (omega arith, passed-before c.args.limit _ {last = c.read_u32-number.result} (rw c.later-found.ensures (rw (number (goal.at.loop-k-preserved c).After-read_u32-number) at next)) (omega arith))

pub returns : goal.returns
returns c = let s = c.args.s.now in
    let all = all-passed c.args.limit (numbers_in s) c.loop-k.invariant.1 (omega (arith, numbers (goal.at.returns c).At-loop-k, c.loop-k-test.false)) in
    number-given s c.args.limit (stss-rises s c.requires.1 (there (goal.at.returns c).At-loop-k) all.0) all.1
