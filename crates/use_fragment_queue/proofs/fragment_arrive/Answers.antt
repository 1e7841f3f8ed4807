-- 55, 28, 71, the answers over a queue that no calls made, then the queue with one fragment more.
use Rattle.std.proofs.lemmas.Result.{err_from_is_err_and}
use mathlib.Core.Path.{◌≡◌}
use Prim.Native.Nat.{◌≤◌}
use native.Mathlib.Omega.{arith}
use Rattle.base_ids.specs.Limits.{record_limit}
use Rattle.table_rows.specs.Row.{rows_of, covered, records_in}
use Rattle.use_fragment_queue.specs.Held.{members_of, cover_limit}
use Rattle.use_fragment_queue.proofs.Held.{members-covered}
use Rattle.use_fragment_queue.proofs.Steps.{too_many, too_long, full, comes, unmade, sums_small, counted_is, counted-over}
use Rattle.use_fragment_queue.proofs.fragment_arrive.Goals as goal
use Rattle.use_fragment_queue.proofs.fragment_arrive.Goals.{In_ok-fragment}

pub returns-then-record_count-gt-RECORD_LIMIT : goal.returns-then-record_count-gt-RECORD_LIMIT
returns-then-record_count-gt-RECORD_LIMIT c = too_many _ _ (rw c.record_count.ensures at c.if-record_count-gt-RECORD_LIMIT.true)

pub returns-in_err-fragment : goal.returns-in_err-fragment
returns-in_err-fragment c =
    let few = rw c.record_count.ensures at c.if-record_count-gt-RECORD_LIMIT.false in
    let r = err_from_is_err_and c.from_residual.result c.from_residual.ensures.1 in
    let over = counted-over _ c.in_err-fragment.ensures in
    rw (r.1, r.2, over.0) (too_long _ _ few over.1)

-- the fragment that was counted
module _ (c : In_ok-fragment) where
  few : records_in c.args.rows.now ≤ record_limit
  few = rw c.record_count.ensures at c.if-record_count-gt-RECORD_LIMIT.false

  is-counted : let f = c.in_ok-fragment.fragment in let rows = rows_of c.args.rows.now in
      (covered rows ≡ f.covered) × (members_of rows ≡ f.members) × (covered rows ≤ cover_limit)
  is-counted = counted_is _ c.in_ok-fragment.ensures

pub returns-then-count-ge-ROOM : goal.returns-then-count-ge-ROOM
returns-then-count-ge-ROOM c = full _ _ (few (goal.at.returns-then-count-ge-ROOM c).In_ok-fragment) (is-counted (goal.at.returns-then-count-ge-ROOM c).In_ok-fragment).2 c.if-count-ge-ROOM.true

pub returns-then-covered_sum-gt-SUM_LIMIT : goal.returns-then-covered_sum-gt-SUM_LIMIT
returns-then-covered_sum-gt-SUM_LIMIT c = unmade _ _ _ (λ held m. omega (arith, sums_small m, c.if-covered_sum-gt-SUM_LIMIT.true))

pub returns-then-members_sum-gt-SUM_LIMIT : goal.returns-then-members_sum-gt-SUM_LIMIT
returns-then-members_sum-gt-SUM_LIMIT c = unmade _ _ _ (λ held m. omega (arith, sums_small m, c.if-members_sum-gt-SUM_LIMIT.true))

pub overflow_add-queue-4 : goal.overflow_add-queue-4
overflow_add-queue-4 c =
    omega (arith, is-counted (goal.at.overflow_add-queue-4 c).In_ok-fragment, c.if-covered_sum-gt-SUM_LIMIT.false)

pub overflow_add-queue-5 : goal.overflow_add-queue-5
overflow_add-queue-5 c =
    omega (arith, is-counted (goal.at.overflow_add-queue-5 c).In_ok-fragment, members-covered (rows_of c.args.rows.now), c.if-members_sum-gt-SUM_LIMIT.false)

pub returns : goal.returns
returns c =
    let n = is-counted (goal.at.returns c).In_ok-fragment in
    comes _ _ (few (goal.at.returns c).In_ok-fragment) n.2 c.if-count-ge-ROOM.false _ _ _ _ n.0 n.1 (omega arith) (omega arith)
