-- Each table by its own step: `row_step` and `pattern-step`.
use mathlib.Core.Path.{ap}
use native.Mathlib.Omega.{arith}
use Rattle.table_patterns.specs.declared.PatternAt.{PatternAt}
use Rattle.table_csgp_head.proofs.Ahead.{Step as PatternStep, ahead_step}
use Rattle.table_runs.specs.Ahead.{WholeIn}
use Rattle.table_runs.specs.declared.SampleTable.TheVariants as table
use Rattle.table_runs.proofs.Steps.{end-in, row_step, pattern-step}
use Rattle.table_runs.proofs.by_pattern.next_pattern.Goals as goal
use Rattle.table_runs.proofs.by_pattern.next_pattern.Goals.{In-Patterns, In-Rows}

-- what is known of the places of rows, and of patterns
rows : (c : In-Rows) → WholeIn c.args.s.now (table.Rows c.in-Rows.field-0) c.args.here
rows c = rw c.in-Rows.is at c.requires

patterns : (c : In-Patterns) → WholeIn c.args.s.now (table.Patterns c.in-Patterns.head) c.args.here
patterns c = rw c.in-Patterns.is at c.requires

step-at : (c : In-Patterns) → PatternStep c.args.s.now c.in-Patterns.head c.args.here
step-at c = ahead_step _ _ _ (patterns c).0 (omega (arith, c.if-left-eq0.false)) (patterns c).1

pub returns-then-left-eq0 : goal.returns-then-left-eq0
returns-then-left-eq0 c =
    end-in c.args.s.now c.args.table c.args.here c.if-left-eq0.true

pub row_at-requires : goal.row_at-requires
row_at-requires c =
    let w = rows c in
    (omega (arith, w.0, c.if-left-eq0.false), w.1)

pub overflow_add-behind : goal.overflow_add-behind
overflow_add-behind c =
    let w = rows (goal.at.overflow_add-behind c).In-Rows in
    omega (arith, w.0, w.1)

pub pattern_at-pattern-requires : goal.pattern_at-pattern-requires
pattern_at-pattern-requires c = ((patterns c).0, (step-at c).pair)

pub patterns_behind-requires : goal.patterns_behind-requires
patterns_behind-requires c =
    let size = ap (λ (x : PatternAt). x.length) c.pattern_at-pattern.ensures in
    (omega (arith, c.if-left-eq0.false), rw size (step-at (goal.at.patterns_behind-requires c).In-Patterns).near)

pub returns-in-Rows : goal.returns-in-Rows
returns-in-Rows c =
    rw (c.in-Rows.is, c.row_at.ensures)
    (row_step c.args.s.now c.args.here c.if-left-eq0.false _ (λ k. (c.type_inv.s k).fits) (rows (goal.at.returns-in-Rows c).In-Rows))

pub returns-in-Patterns : goal.returns-in-Patterns
returns-in-Patterns c =
    let size = ap (λ (x : PatternAt). x.length) c.pattern_at-pattern.ensures in
    rw (c.in-Patterns.is, c.patterns_behind.ensures, size, c.pattern_at-pattern.ensures)
    (pattern-step c.args.s.now c.args.here c.if-left-eq0.false _ (patterns (goal.at.returns-in-Patterns c).In-Patterns))
