-- By what the tally tells, then by the tests that led to each answer.
use mathlib.Core.Path.{◌≡◌, sym, ◌∙◌}
use native.Mathlib.Omega.{arith}
use lib.ListN.{length}
use Rattle.base_fields.proofs.Handed.{handed}
use Rattle.table_rows.specs.Row.{rows_of}
use Rattle.table_writing.specs.Bodies.{csgp_bytes}
use Rattle.table_rows.specs.Joined.{joined}
use Rattle.table_writing.proofs.Write.{offered-made}
use Rattle.table_writers.proofs.Walk.{remain_length}
use Rattle.table_writers.proofs.Answering.{gives-refused, gives-bytes, over, disagrees, shorter, offered-csgp, tally-low, tally-length, written_over}
use Rattle.table_writers.proofs.write_csgp.Goals as goal

pub returns-then-record_count-gt-RECORD_LIMIT : goal.returns-then-record_count-gt-RECORD_LIMIT
returns-then-record_count-gt-RECORD_LIMIT c = gives-refused _ (over _ (rw c.record_count.ensures at c.if-record_count-gt-RECORD_LIMIT.true))

pub length_of-requires : goal.length_of-requires
length_of-requires c =
    let l = c.args.rows.now in
    let o = rw c.in_ok-t.was at c.tally_rows.ensures in
    (omega (arith, o.rows, remain_length l, c.if-record_count-gt-RECORD_LIMIT.false), tally-low l _ o)

pub returns-then-quoted-length_of : goal.returns-then-quoted-length_of
returns-then-quoted-length_of c =
    let a = c.args in
    let l = a.rows.now in
    let o = rw c.in_ok-t.was at c.tally_rows.ensures in
    let bytes = csgp_bytes a.grouping_type (joined (rows_of l)) in
    let size : c.length_of.result ≡ length bytes = c.length_of.ensures ∙ tally-length l _ o a.grouping_type in
    let few = rw c.record_count.ensures at c.if-record_count-gt-RECORD_LIMIT.false in
    gives-refused _ (offered-csgp l _ o _ _ _ few ∙ disagrees a.quoted (length a.out.now) bytes (λ e. c.if-quoted-length_of.true (e ∙ sym size)))

pub returns-then-out-quoted : goal.returns-then-out-quoted
returns-then-out-quoted c =
    let a = c.args in
    let l = a.rows.now in
    let o = rw c.in_ok-t.was at c.tally_rows.ensures in
    let bytes = csgp_bytes a.grouping_type (joined (rows_of l)) in
    let needed : a.quoted ≡ length bytes = c.if-quoted-length_of.false ∙ c.length_of.ensures ∙ tally-length l _ o a.grouping_type in
    let few = rw c.record_count.ensures at c.if-record_count-gt-RECORD_LIMIT.false in
    gives-refused _ (offered-csgp l _ o _ _ _ few ∙ shorter a.quoted (length a.out.now) bytes needed c.if-out-quoted.true)

pub put_csgp-requires : goal.put_csgp-requires
put_csgp-requires c =
    let a = c.args in
    let l = a.rows.now in
    let o = rw c.in_ok-t.was at c.tally_rows.ensures in
    (rw c.record_count.ensures at c.if-record_count-gt-RECORD_LIMIT.false, o, omega (arith, c.length_of.ensures, c.if-quoted-length_of.false, c.if-out-quoted.false))

pub returns : goal.returns
returns c =
    let a = c.args in
    let l = a.rows.now in
    let o = rw c.in_ok-t.was at c.tally_rows.ensures in
    let bytes = csgp_bytes a.grouping_type (joined (rows_of l)) in
    let needed : a.quoted ≡ length bytes = c.if-quoted-length_of.false ∙ c.length_of.ensures ∙ tally-length l _ o a.grouping_type in
    let few = rw c.record_count.ensures at c.if-record_count-gt-RECORD_LIMIT.false in
    let told-bytes = offered-csgp l _ o _ _ _ few ∙ offered-made a.quoted (length a.out.now) bytes needed c.if-out-quoted.false in
    gives-bytes a.out.now told-bytes needed c.put_csgp.ensures

pub returns-in_err-t : goal.returns-in_err-t
returns-in_err-t c =
    let l = c.args.rows.now in
    let o = rw c.in_err-t.was at c.tally_rows.ensures in
    rw (handed c.from_residual.ensures, o.0)
    (gives-refused _ (written_over l _ _ _ o.1 (rw c.record_count.ensures at c.if-record_count-gt-RECORD_LIMIT.false)))
