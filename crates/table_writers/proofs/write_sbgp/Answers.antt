-- By the tests that led to each answer.
use mathlib.Core.Path.{◌≡◌, sym, ◌∙◌}
use lib.ListN.{length}
use Rattle.table_rows.specs.Row.{rows_of}
use Rattle.table_writing.specs.Bodies.{sbgp_bytes}
use Rattle.table_writing.proofs.Write.{offered-made}
use Rattle.table_writers.proofs.Answering.{gives-refused, gives-bytes, over, few, disagrees, shorter, sbgp-size}
use Rattle.table_writers.proofs.write_sbgp.Goals as goal

pub returns-then-records-gt-RECORD_LIMIT : goal.returns-then-records-gt-RECORD_LIMIT
returns-then-records-gt-RECORD_LIMIT c = gives-refused _ (over _ (rw c.record_count-records.ensures at c.if-records-gt-RECORD_LIMIT.true))

pub returns-then-quoted-records : goal.returns-then-quoted-records
returns-then-quoted-records c =
    let counted = c.record_count-records.ensures in
    let a = c.args in
    let bytes = sbgp_bytes a.grouping_type (rows_of a.rows.now) in
    let size = sbgp-size a.rows.now a.grouping_type in
    gives-refused _ (few _ (rw counted at c.if-records-gt-RECORD_LIMIT.false) ∙ disagrees a.quoted _ bytes (λ e. c.if-quoted-records.true (e ∙ size ∙ rw counted)))

pub returns-then-out-quoted : goal.returns-then-out-quoted
returns-then-out-quoted c =
    let counted = c.record_count-records.ensures in
    let a = c.args in
    let bytes = sbgp_bytes a.grouping_type (rows_of a.rows.now) in
    let needed : a.quoted ≡ length bytes = c.if-quoted-records.false ∙ rw counted (sym (sbgp-size a.rows.now a.grouping_type)) in
    gives-refused _ (few _ (rw counted at c.if-records-gt-RECORD_LIMIT.false) ∙ shorter a.quoted (length a.out.now) bytes needed c.if-out-quoted.true)

pub returns : goal.returns
returns c =
    let counted = c.record_count-records.ensures in
    let a = c.args in
    let bytes = sbgp_bytes a.grouping_type (rows_of a.rows.now) in
    let needed : a.quoted ≡ length bytes = c.if-quoted-records.false ∙ rw counted (sym (sbgp-size a.rows.now a.grouping_type)) in
    gives-bytes a.out.now (few _ (rw counted at c.if-records-gt-RECORD_LIMIT.false) ∙ offered-made a.quoted (length a.out.now) bytes needed c.if-out-quoted.false)
    needed c.put_sbgp.ensures
