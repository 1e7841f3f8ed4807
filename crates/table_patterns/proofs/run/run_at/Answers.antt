-- The run ends with the period (`run-part`), or is all that is left where the whole period is alike (`run-all`).
use mathlib.Core.Path.{subst}
use Prim.Native.Nat.{ℕ, ◌≤◌, ◌<◌, ◌+◌, ◌%◌}
use native.Mathlib.Nat.{mod-lt, mul-le-mul_left}
use native.Mathlib.Omega.{arith}
use Rattle.table_patterns.specs.Place.{index_number}
use Rattle.table_patterns.specs.Run.{AlikeIndices}
use Rattle.table_patterns.specs.declared.PatternAt.{PatternAt}
use Rattle.table_patterns.proofs.Runs.{run-valued, run_fits, run-part, run-all, gives-run}
use Rattle.table_patterns.proofs.run.run_at.Goals as goal
use Rattle.table_patterns.proofs.run.run_at.Goals.{After-index_value-index}

-- the first sample stands in its period
turn_below : (k length : ℕ) → 0 < length → k % length < length
turn_below k length some = mod-lt _ some

pub nonzero_rem-from : goal.nonzero_rem-from
nonzero_rem-from c = omega (arith, c.requires.0.some)

pub overflow_sub-pattern : goal.overflow_sub-pattern
overflow_sub-pattern c = omega (arith, turn_below c.args.k c.args.pattern.length c.requires.0.some)

pub overflow_add-end : goal.overflow_add-end
overflow_add-end c = omega (arith, turn_below c.args.k c.args.pattern.length c.requires.0.some, c.min.ensures)

pub alike_indices-run-requires : goal.alike_indices-run-requires
alike_indices-run-requires c =
    let p = c.args.pattern in
    let m = turn_below c.args.k p.length c.requires.0.some in
    let n = c.min.ensures in
    let h : c.args.k % p.length + c.min.result ≤ p.length = omega arith in
    (c.requires.0.narrow, c.requires.0.late, omega (arith, c.requires.1), omega (arith, mul-le-mul_left p.width h, c.requires.0.inside), c.requires.0.short)

pub index_value-index-requires : goal.index_value-index-requires
index_value-index-requires c =
    let p = c.args.pattern in
    (c.requires.0.wide, c.requires.0.narrow, run_fits p.width p.indices _ _ c.args.s.now _ c.alike_indices-run.ensures)

-- the run of indices that was found, up to its end in the period
module _ (c : After-index_value-index) where
  abbrev place : PatternAt
  place = c.args.pattern

  -- the place of the first sample in its period
  abbrev turn : ℕ
  turn = c.args.k % place.length

  abbrev index : ℕ → ℕ
  index = index_number place.marks place.width c.args.s.now place.indices

  abbrev stop : ℕ
  stop = turn + c.min.result

  alike : AlikeIndices index turn stop (record { count = c.alike_indices-run.result.count; index = c.index_value-index.result })
  alike =
      run-valued place.marks place.width place.indices turn stop c.args.s.now c.alike_indices-run.result c.alike_indices-run.ensures
      c.index_value-index.ensures.0

pub returns-then-run-pattern : goal.returns-then-run-pattern
returns-then-run-pattern c =
    let valued = (goal.at.returns-then-run-pattern c).After-index_value-index in
    let p = c.args.pattern in
    let m = turn_below c.args.k p.length c.requires.0.some in
    let t = subst (λ (n : ℕ). AlikeIndices (index valued) (turn valued) (stop valued) (record { count = n; index = c.index_value-index.result })) c.if-run-pattern.true (alike valued) in
    gives-run c.args.s.now p c.args.k _ c.requires.0.some
    (run-all (index valued) p.length c.args.k p.count c.requires.0.some _ _ t (omega (arith, c.min.ensures)) c.requires.1)

pub returns : goal.returns
returns c =
    let valued = (goal.at.returns c).After-index_value-index in
    let p = c.args.pattern in
    let m = turn_below c.args.k p.length c.requires.0.some in
    let n = c.min.ensures in
    gives-run c.args.s.now p c.args.k _ c.requires.0.some
    (run-part _ p.length c.args.k p.count c.requires.0.some _ _ (alike valued) (omega arith) (omega arith) c.requires.1)
