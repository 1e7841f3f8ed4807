use mathlib.Core.Path.{◌≡◌, refl}
use Prim.Native.Nat.{◌-◌, min}
use native.Mathlib.Nat.{zero-add}
use native.Mathlib.Omega.{arith}
use borrow.Author.Tests.{lt-ltb, le-ltb}
use Rattle.table_rows.specs.Row.{rows_of, covered, records_in}
use Rattle.base_ids.specs.Limits.{record_limit}
use Rattle.table_play_head.proofs.Steps.{set-due, turns}
use Rattle.table_play_head.proofs.set_by_value.Goals as goal

pub returns-then-record_count-gt-RECORD_LIMIT : goal.returns-then-record_count-gt-RECORD_LIMIT
returns-then-record_count-gt-RECORD_LIMIT c = rw (lt-ltb _ _ (rw c.record_count.ensures at c.if-record_count-gt-RECORD_LIMIT.true)) c.too_many.ensures

pub returns : goal.returns
returns c =
    let args = c.args in
    let l = args.rows.now in
    let k = args.sample.0 in
    let w = c.walk_from-to.ensures in
    let to = k - c.walk_from-to.result.past in
    let e : min k (min (covered (rows_of l)) 4294967295) ≡ to = omega (arith, w.past, c.struct_known-1.given) in
    let clamped : to ≡ min k (covered (rows_of l)) = omega (arith, w.past) in
    rw (le-ltb record_limit (records_in l) (rw c.record_count.ensures at c.if-record_count-gt-RECORD_LIMIT.false), e)
    (turns refl refl (set-due (rows_of l) k to (rw zero-add at w.row) w.within clamped c.index_of-index.ensures))
