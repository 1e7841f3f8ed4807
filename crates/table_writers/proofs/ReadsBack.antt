-- What the calls promise together: a quoted length that the output holds is written, and what a write left in front of the output reads back.
use Rattle.std.specs.Prelude.{Ok}
use mathlib.Core.Path.{◌≡◌, sym, ap, ◌∙◌}
use Prim.Native.Nat.{ℕ, ◌<◌, ◌≤◌}
use mathlib.Core.List.{List}
use lib.ListN.{length, get_or, take}
use Rattle.base_fields.specs.Answer.{Answer, given, input_limit, overwritten}
use Rattle.base_fields.specs.Number.{field_bound}
use Rattle.base_fields.proofs.Answers.{given-first}
use Rattle.table_rows.specs.Row.{rows_of}
use Rattle.table_sbgp.specs.Sbgp.{parse_sbgp}
use Rattle.table_csgp.specs.Table.{parse_csgp}
use Rattle.table_writing.specs.Write.{write_sbgp, write_csgp}
use Rattle.table_writing.proofs.Write.{sbgp-written, csgp-written, sbgp-reads-back, csgp-reads-back, output-front, ReadsBack}
use Rattle.table_writers.specs.Told.{GivesWritten}

-- bytes were told: they are the answer, and stand in front of the output
module _ (told : Answer (List ℕ)) (out after : List ℕ) {n : ℕ} (g : GivesWritten told out after (Ok n)) where
  pub bytes-given : (bytes : List ℕ) × (told ≡ given bytes) × (after ≡ overwritten (λ b. b) (given bytes) out)
  bytes-given =
      let r = given-first told (λ b. given (length b)) (sym g.answer) in
      (r.0, r.1, g.output ∙ ap (λ (a : Answer (List ℕ)). overwritten (λ b. b) a out) r.1)

module _ (t : ℕ) (l : List ℕ) (type : t < field_bound) (numbers : (k : ℕ) → get_or l k 0 < field_bound) (quoted : ℕ)
    (short : quoted ≤ input_limit) (records : ℕ) (enough : length (rows_of l) ≤ records) (out after : List ℕ) {n : ℕ} where
  pub sbgp-call-reads-back : GivesWritten (write_sbgp t l quoted (length out)) out after (Ok n) →
      parse_sbgp (take quoted after) records ≡ given (record { grouping_type_of = t; parameter = 0; rows = rows_of l })
  sbgp-call-reads-back g =
      let b = bytes-given (write_sbgp t l quoted (length out)) out after g in
      let w = sbgp-written t l quoted (length out) b.1 in
      rw (b.2, output-front b.0 out quoted w.1) (sbgp-reads-back t l type numbers quoted (length out) short records enough b.1)

  pub csgp-call-reads-back : GivesWritten (write_csgp t l quoted (length out)) out after (Ok n) →
      ReadsBack t (rows_of l) (parse_csgp (take quoted after) records)
  csgp-call-reads-back g =
      let b = bytes-given (write_csgp t l quoted (length out)) out after g in
      let w = csgp-written t l quoted (length out) b.1 in
      rw (b.2, output-front b.0 out quoted w.3) (csgp-reads-back t l type numbers quoted (length out) short records enough b.1)
