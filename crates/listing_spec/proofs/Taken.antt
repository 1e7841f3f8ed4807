-- A taken table against the tables' own readers: its patterns are those of its structure, and its rows those of parse_sbgp or parse_csgp, with the same
-- refusals.
use mathlib.Core.Path.{◌≡◌, refl, ap, sym, ◌∙◌}
use mathlib.Core.Bool.{Bool, true, false}
use mathlib.Core.List.{List, [], map}
use Prim.Native.Nat.{ℕ}
use lib.Dec.{ltb}
use lib.ListN.{length}
use Rattle.base_fields.specs.Answer.{Answer, given, none, refused, refuse_if, and_then}
use Rattle.base_fields.specs.Span.{bytes_at}
use Rattle.base_fields.proofs.Answers.{given_inj, given-first, and_then_assoc, and_then-same}
use Rattle.table_rows.specs.Row.{Table}
use Rattle.table_rows.specs.Pattern.{Pattern, single, samples_of}
use Rattle.table_replay.specs.Replay.{replay}
use Rattle.table_sbgp.specs.Sbgp.{sbgp, entered, parse_sbgp}
use Rattle.table_csgp_head.specs.Csgp.{csgp}
use Rattle.table_csgp.specs.Table.{csgp_table, parse_csgp}
use Rattle.listing_spec.specs.Walk.{TakenTable, sbgp_at, csgp_at}
use Rattle.listing_spec.specs.Table.{TableContents, patterns_taken, taken_table}

-- what the table's own reader answers
abbrev pub parsed_taken : List ℕ → ℕ → TakenTable → Answer Table
parsed_taken s room (sbgp_at b) = parse_sbgp (bytes_at s b) room
parsed_taken s room (csgp_at b) = parse_csgp (bytes_at s b) room

abbrev pub contents : List Pattern → Table → TableContents
contents ps x = record { patterns = ps; rows = x.rows }

-- read by its structure, of type S, which tells the patterns and how the rows are entered
module _ {S : Type 0} (patterns : S → List Pattern) (enter : S → Answer Table) where
  abbrev read_by : Answer S → Answer TableContents
  read_by a = and_then a (λ x. and_then (enter x) (λ y. given (contents (patterns x) y)))

  structured : (a : Answer S) → read_by a ≡ and_then (and_then a (λ x. given (patterns x))) (λ ps. and_then (and_then a enter) (λ y. given (contents ps y)))
  structured (given x) = refl
  structured none = refl
  structured (refused n) = refl

  rows-only : (a : Answer S) → and_then (read_by a) (λ c. given c.rows) ≡ and_then (and_then a enter) (λ y. given y.rows)
  rows-only (given x) = and_then_assoc (enter x) _ _
  rows-only none = refl
  rows-only (refused n) = refl

itself : {A : Type 0} (a : Answer A) → and_then a (λ x. given x) ≡ a
itself (given x) = refl
itself none = refl
itself (refused n) = refl

-- an sbgp's rows are entered as they are
as_they_are : (t : Table) (test : Bool) → and_then (refuse_if test 29 (given t)) (λ y. given (contents (map single y.rows) y))
    ≡ and_then (refuse_if test 29 (given t)) (λ y. given (contents (map single t.rows) y))
as_they_are t true = refl
as_they_are t false = refl

module _ (s : List ℕ) (room : ℕ) where
  module _ (p : List ℕ) where
    abbrev enter_all : List Pattern → Answer Table
    enter_all ps = and_then (replay room [] (samples_of ps)) (λ rows. given (csgp_table p rows))

    sbgp-read : and_then (sbgp p) (λ x. and_then (entered room x) (λ y. given (contents (map single y.rows) y)))
        ≡ read_by (λ x. map single x.rows) (entered room) (sbgp p)
    sbgp-read = and_then-same (sbgp p) _ _ (λ x e. as_they_are x (ltb room (length x.rows)))

    csgp-read : and_then (csgp p) (λ ps. and_then (replay room [] (samples_of ps)) (λ rows. given (contents ps (csgp_table p rows))))
        ≡ read_by (λ ps. ps) enter_all (csgp p)
    csgp-read = and_then-same (csgp p) _ _ (λ ps e. sym (and_then_assoc (replay room [] (samples_of ps)) _ _))

  -- the structure's refusals, then those of the rows
  pub table-read : (k : TakenTable) → taken_table s room k ≡ and_then (patterns_taken s k) (λ ps. and_then (parsed_taken s room k) (λ x. given (contents ps x)))
  unfolding taken_table patterns_taken
  table-read (sbgp_at b) = let p = bytes_at s b in sbgp-read p ∙ structured (λ x. map single x.rows) (entered room) (sbgp p)
  table-read (csgp_at b) =
      let p = bytes_at s b in
      csgp-read p ∙ structured (λ ps. ps) (enter_all p) (csgp p)
      ∙ ap (λ (a : Answer (List Pattern)). and_then a (λ ps. and_then (parse_csgp p room) (λ x. given (contents ps x)))) (itself (csgp p))

  -- the rows, and every refusal, are the reader's
  pub table-rows : (k : TakenTable) → and_then (taken_table s room k) (λ c. given c.rows) ≡ and_then (parsed_taken s room k) (λ x. given x.rows)
  unfolding taken_table
  table-rows (sbgp_at b) =
      let p = bytes_at s b in
      ap (λ (a : Answer TableContents). and_then a (λ c. given c.rows)) (sbgp-read p) ∙ rows-only (λ x. map single x.rows) (entered room) (sbgp p)
  table-rows (csgp_at b) =
      let p = bytes_at s b in
      ap (λ (a : Answer TableContents). and_then a (λ c. given c.rows)) (csgp-read p) ∙ rows-only (λ ps. ps) (enter_all p) (csgp p)

  pub structure_refused : (k : TakenTable) {n : ℕ} → patterns_taken s k ≡ refused n → taken_table s room k ≡ refused n
  structure_refused k e = table-read k ∙ ap (λ (a : Answer (List Pattern)). and_then a (λ ps. and_then (parsed_taken s room k) (λ x. given (contents ps x)))) e

  -- behind the structure
  module _ (k : TakenTable) {ps : List Pattern} (read : patterns_taken s k ≡ given ps) where
    behind : taken_table s room k ≡ and_then (parsed_taken s room k) (λ x. given (contents ps x))
    behind = table-read k ∙ ap (λ (a : Answer (List Pattern)). and_then a (λ qs. and_then (parsed_taken s room k) (λ x. given (contents qs x)))) read

    pub table-made : {x : Table} → parsed_taken s room k ≡ given x → taken_table s room k ≡ given (contents ps x)
    table-made e = behind ∙ ap (λ (a : Answer Table). and_then a (λ x. given (contents ps x))) e

    pub rows-refused : {n : ℕ} → parsed_taken s room k ≡ refused n → taken_table s room k ≡ refused n
    rows-refused e = behind ∙ ap (λ (a : Answer Table). and_then a (λ x. given (contents ps x))) e

  -- so a table that was read has its patterns, and its reader's rows
  pub record TableRead (k : TakenTable) (x : TableContents) : Type 0 where
    pub table : Table
    pub parsed : parsed_taken s room k ≡ given table
    pub patterned : patterns_taken s k ≡ given x.patterns
    pub rows : x.rows ≡ table.rows

  pub table-given : (k : TakenTable) {x : TableContents} → taken_table s room k ≡ given x → TableRead k x
  table-given k e =
      let first = given-first (patterns_taken s k) _ (sym (table-read k) ∙ e) in
      let second = given-first (parsed_taken s room k) _ first.2 in
      let same = given_inj second.2 in
      record {
        table = second.0;
        parsed = second.1;
        patterned = first.1 ∙ ap (λ (c : TableContents). given c.patterns) same;
        rows = sym (ap (λ (c : TableContents). c.rows) same);
      }
