-- By the tests that led to each answer.
use borrow.Author.Tests.{lt-ltb, le-ltb}
use Rattle.table_writing.specs.Bodies.{code_for}
use Rattle.table_writers.proofs.tally.code_for.Goals as goal

pub returns-in-0-to-15 : goal.returns-in-0-to-15
unfolding code_for
returns-in-0-to-15 c = simp (lt-ltb _ _ c.in-0-to-15.if-n-lt16-own.true)

pub returns-in-16-to-255 : goal.returns-in-16-to-255
unfolding code_for
returns-in-16-to-255 c = simp (le-ltb _ _ c.in-16-to-255.if-n-lt16-own.false, lt-ltb _ _ c.in-16-to-255.if-n-lt256-own.true)

pub returns-in-256-to-65535 : goal.returns-in-256-to-65535
unfolding code_for
returns-in-256-to-65535 c = simp (le-ltb _ _ c.in-256-to-65535.if-n-lt16-own.false, le-ltb _ _ c.in-256-to-65535.if-n-lt256-own.false, lt-ltb _ _ c.in-256-to-65535.if-n-lt65536-own.true)

pub returns-in_default : goal.returns-in_default
unfolding code_for
returns-in_default c = simp (le-ltb _ _ c.in_default.if-n-lt16-own.false, le-ltb _ _ c.in_default.if-n-lt256-own.false, le-ltb _ _ c.in_default.if-n-lt65536-own.false)
