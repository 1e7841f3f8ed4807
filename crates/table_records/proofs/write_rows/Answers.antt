use mathlib.Core.Path.{◌∙◌}
use native.Mathlib.Omega.{arith}
use Rattle.table_records.proofs.Lent.{rows-enough, rows-filled, patterns-given, patterns-filled}
use Rattle.table_records.proofs.write_rows.Goals as goal

pub fill-requires : goal.fill-requires
fill-requires c =
    let e = c.in-Rows.is in
    let laid = rw e at c.requires.0 in
    let enough = rows-enough _ _ _ laid (rw e at c.requires.1.1) in
    (laid.inside, omega (arith, enough))

pub fill-requires-in-Patterns : goal.fill-requires-in-Patterns
fill-requires-in-Patterns c =
    let e = c.in-Patterns.is in
    (rw e at c.requires.0, patterns-given _ _ (rw e at c.requires.1.1))

pub returns-in-Rows : goal.returns-in-Rows
returns-in-Rows c =
    let e = c.in-Rows.is in
    let laid = rw e at c.requires.0 in
    rw e (c.fill.ensures ∙ rows-filled _ _ _ laid (rows-enough _ _ _ laid (rw e at c.requires.1.1)) _)

pub returns-in-Patterns : goal.returns-in-Patterns
returns-in-Patterns c =
    rw c.in-Patterns.is (c.fill-in-Patterns.ensures ∙ patterns-filled _ _ _)
