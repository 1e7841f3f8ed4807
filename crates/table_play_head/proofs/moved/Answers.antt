use mathlib.Core.Path.{refl, sym, ◌∙◌}
use native.Mathlib.Numerals.{add-one}
use Rattle.std.proofs.Common.{drop}
use Rattle.table_rows.specs.Row.{rows_of}
use Rattle.table_play_head.specs.Play.{last_sample}
use Rattle.table_play_head.proofs.Play.{same_head}
use Rattle.table_play_head.proofs.Records.{record_at, record_none}
use Rattle.table_play_head.proofs.Steps.{onward_fresh, onward-none, onward-last, onward-next}
use Rattle.table_play_head.proofs.moved.Goals as goal

pub returns-then-head : goal.returns-then-head
returns-then-head c below =
    let w = c.walk_from-first.ensures in
    same_head refl w.row w.within ∙ sym (onward_fresh c.args.head (drop c.args.head.row (rows_of c.args.rows.now)) last_sample c.if-head.true)

pub returns-then-record_count-row : goal.returns-then-record_count-row
returns-then-record_count-row c below =
    sym (onward-none c.args.head (drop c.args.head.row (rows_of c.args.rows.now)) c.if-head.false last_sample (record_none c.args.rows.now c.args.head.row (rw c.record_count.ensures at c.if-record_count-row.true)))

pub returns-then-sample-ge-LAST_SAMPLE : goal.returns-then-sample-ge-LAST_SAMPLE
returns-then-sample-ge-LAST_SAMPLE c below = sym (onward-last _ _ c.if-head.false c.if-sample-ge-LAST_SAMPLE.true)

pub returns : goal.returns
returns c below =
    let w = c.walk_from-next.ensures in
    same_head (add-one _) (rw add-one at w.row) (rw add-one at w.within)
    ∙ sym (onward-next _ _ c.if-head.false (record_at _ _ (rw c.record_count.ensures at c.if-record_count-row.false)) c.if-sample-ge-LAST_SAMPLE.false)
