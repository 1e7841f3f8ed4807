use mathlib.Core.Path.{refl}
use native.Mathlib.Omega.{arith}
use Rattle.table_play_head.proofs.Steps.{move-due, turns}
use Rattle.table_play_head.proofs.move_by_value.Goals as goal

pub returns-then-record_count-gt-RECORD_LIMIT : goal.returns-then-record_count-gt-RECORD_LIMIT
returns-then-record_count-gt-RECORD_LIMIT c =
    let many = rw c.record_count.ensures at c.if-record_count-gt-RECORD_LIMIT.true in
    record {
      too_many_records = λ _. c.too_many.ensures;
      answered = λ few. absurd (omega (arith, few, many));
      due = λ few own at m e. absurd (omega (arith, few, many));
    }

pub returns : goal.returns
returns c =
    record {
      too_many_records = λ many. absurd (omega (arith, many, rw c.record_count.ensures at c.if-record_count-gt-RECORD_LIMIT.false));
      answered = λ few. (c.index_of-index.result, refl);
      due = λ few own at m e. turns refl refl (move-due _ own at c.moved-next.ensures c.index_of-index.ensures m e);
    }
