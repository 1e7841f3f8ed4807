use mathlib.Core.Path.{sym, ◌∙◌}
use native.Mathlib.Omega.{arith}
use Rattle.table_patterns.proofs.Words.{words-none, words_more}
use Rattle.table_patterns.proofs.run.equal_words.Goals as goal

pub overflow_sub-at : goal.overflow_sub-at
overflow_sub-at c = omega arith

pub read_u64-word-requires : goal.read_u64-word-requires
read_u64-word-requires c = omega arith

pub loop-end-init : goal.loop-end-init
loop-end-init c = words-none _ _ _ c.requires.1

pub overflow_add-end : goal.overflow_add-end
overflow_add-end c = omega arith

pub read_u64-requires : goal.read_u64-requires
read_u64-requires c = omega arith

pub returns-then-read_u64-word : goal.returns-then-read_u64-word
returns-then-read_u64-word c = c.loop-end.invariant

pub overflow_add-end-in-loop-end : goal.overflow_add-end-in-loop-end
overflow_add-end-in-loop-end c = omega arith

pub loop-end-smaller : goal.loop-end-smaller
loop-end-smaller c = omega arith

pub loop-end-preserved : goal.loop-end-preserved
loop-end-preserved c =
    words_more _ _ _ c.requires.0 c.loop-end.invariant c.loop-end-test.true
    (sym c.read_u64.ensures.0 ∙ c.if-read_u64-word.false ∙ c.read_u64-word.ensures.0)

pub returns : goal.returns
returns c = c.loop-end.invariant
