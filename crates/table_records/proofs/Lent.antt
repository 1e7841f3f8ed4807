-- Each table's rows as its own reader makes them: how many there are, and the lent run with them in front.
use mathlib.Core.Path.{◌≡◌, refl, sym, ◌∙◌}
use Prim.Native.Nat.{ℕ, ◌*◌, ◌<◌, ◌≤◌}
use native.Mathlib.Decide.{dec_lt}
use native.Mathlib.Omega.{arith}
use mathlib.Core.List.{List, [], ◌++◌, reverse}
use lib.Dec.{ltb}
use lib.ListN.{length, drop, length-reverse}
use lib.Seq.{ext_get_or}
use borrow.Author.Tests.{lt-ltb, le-ltb, ltb-false}
use Rattle.base_fields.specs.Answer.{Answer, given, none, refused, and_then}
use Rattle.base_fields.proofs.Answers.{given_inj, given-first, given-past, refused-given}
use Rattle.table_rows.specs.Row.{Row, Table, record_numbers, filled, rows_of_table, flat, covered, index_at, expand}
use Rattle.table_rows.specs.Pattern.{Pattern, samples_of, covered_by, index_of}
use Rattle.table_rows.proofs.Samples.{covered-expand, index_at-expand, covered_by-samples, index_of-samples}
use Rattle.table_sbgp.specs.Sbgp.{read_rows, sbgp, entered, parse_sbgp}
use Rattle.table_sbgp.proofs.Lookup.{sbgp-index, sbgp-covered}
use Rattle.table_sbgp.specs.Head.{SbgpLaid}
use Rattle.table_sbgp.specs.declared.SbgpHead.{SbgpHead}
use Rattle.table_sbgp.proofs.Table.{read_rows-length}
use Rattle.table_replay.specs.Replay.{replay}
use Rattle.table_replay.proofs.Replay.{replay-room}
use Rattle.table_csgp_head.specs.Csgp.{csgp}
use Rattle.table_csgp.specs.Rows.{rows_for}
use Rattle.table_csgp.specs.Table.{parse_csgp, csgp_table}
use Rattle.table_csgp.proofs.Parse.{parse_rows}
use Rattle.table_csgp.proofs.Lookup.{csgp-index, csgp-covered}
use Rattle.table_runs.specs.Ahead.{all_in, ahead_in, LaidIn}
use Rattle.table_runs.specs.declared.SampleTable.{SampleTable}
use Rattle.table_runs.specs.declared.SampleTable.TheVariants as table
use Rattle.table_records.specs.Lent.{table_from}

abbrev pub counted : Answer Table → Answer ℕ
counted a = and_then a (λ t. given (length t.rows))

module _ (s : List ℕ) (room : ℕ) where
  module _ (h : SbgpHead) (l : SbgpLaid s h) where
    pub rows-over : room < h.entry_count → parse_sbgp s room ≡ refused 29
    rows-over b = let e = read_rows-length h.entry_count s h.first in rw l.table (simp (e, lt-ltb _ _ b))

    pub rows-counted : h.entry_count ≤ room → given h.entry_count ≡ counted (parse_sbgp s room)
    rows-counted b = let e = read_rows-length h.entry_count s h.first in rw l.table (simp (e, le-ltb _ _ b))

    pub rows-enough : {t : Table} → parse_sbgp s room ≡ given t → h.entry_count ≤ room
    rows-enough e =
        elim (dec_lt room h.entry_count) [
          | yes b ↦ absurd (refused-given (sym (rows-over b) ∙ e))
          | no b ↦ omega (arith, b)
        ]

    pub rows-filled : h.entry_count ≤ room → (l : List ℕ)
        → flat (read_rows h.entry_count s h.first) ++ drop (record_numbers * h.entry_count) l ≡ filled rows_of_table (parse_sbgp s room) l
    rows-filled b run = let e = read_rows-length h.entry_count s h.first in rw l.table (simp (e, le-ltb _ _ b))

  pub patterns-counted : and_then (rows_for s room) (λ rows. given (length rows)) ≡ counted (parse_csgp s room)
  patterns-counted = rw (parse_rows s room) (by (rows_for s room))
    where
      by : (a : Answer (List Row)) → and_then a (λ rows. given (length rows)) ≡ counted (and_then a (λ rows. given (csgp_table s rows)))
      by (given rows) = rw (length-reverse rows) refl
      by none = refl
      by (refused n) = refl

  pub patterns-given : {t : Table} → parse_csgp s room ≡ given t → (out : List Row) × (rows_for s room ≡ given out)
  patterns-given e = let g = given-first (rows_for s room) (λ rows. given (csgp_table s rows)) (sym (parse_rows s room) ∙ e) in (g.0, g.1)

  pub patterns-filled : (l : List ℕ) → filled reverse (rows_for s room) l ≡ filled rows_of_table (parse_csgp s room) l
  patterns-filled l = rw (parse_rows s room) (by (rows_for s room))
    where
      by : (a : Answer (List Row)) → filled reverse a l ≡ filled rows_of_table (and_then a (λ rows. given (csgp_table s rows))) l
      by (given rows) = refl
      by none = refl
      by (refused n) = refl

-- the rows say the same of each sample as the patterns ahead of the first
pub record Covers (rows : List Row) (ps : List Pattern) : Type 0 where
  pub cover : covered rows ≡ covered_by ps
  pub index : (k : ℕ) → index_at rows k ≡ index_of ps k

pub covers-samples : {rows : List Row} {ps : List Pattern} → Covers rows ps → expand rows ≡ samples_of ps
covers-samples {rows} {ps} c =
    ext_get_or 0 (expand rows) (samples_of ps) (sym (covered-expand rows) ∙ c.cover ∙ covered_by-samples ps)
    (λ i h. sym (index_at-expand rows i) ∙ c.index i ∙ index_of-samples ps i)

pub lent-covers : (s : List ℕ) (t : SampleTable) (room : ℕ) {x : Table} → LaidIn s t → table_from s t room ≡ given x → Covers x.rows (ahead_in s t (all_in t))
lent-covers s (table.Rows h) room {x} l e =
    let first = given-first (sbgp s) (entered room) e in
    let read = given_inj (sym first.1 ∙ l.table) in
    let same = given_inj (given-past (ltb room (length first.0.rows)) 29 (given first.0) first.2).1 in
    let rows : x.rows ≡ read_rows h.entry_count s h.first = rw (← same, read) refl in
    rw (← rows) (record { cover = sbgp-covered s room e; index = sbgp-index s room e })
lent-covers s (table.Patterns h) room l e = record { cover = csgp-covered s room e l.patterns; index = csgp-index s room e l.patterns }

-- the rows find records
pub lent_fits : (s : List ℕ) (t : SampleTable) (room : ℕ) {x : Table} → table_from s t room ≡ given x → length x.rows ≤ room
lent_fits s (table.Rows h) room e =
    let first = given-first (sbgp s) (entered room) e in
    let last = given-past (ltb room (length first.0.rows)) 29 (given first.0) first.2 in
    rw (← given_inj last.1) (ltb-false room (length first.0.rows) last.0)
lent_fits s (table.Patterns h) room e =
    let first = given-first (csgp s) _ e in
    let rows = given-first (replay room [] (samples_of first.0)) _ first.2 in
    rw (← given_inj rows.2, length-reverse) (replay-room room [] (samples_of first.0) rows.1 (omega arith))
