-- From the rows of a payload to what its reader answers, and what the rows tell of its patterns.
use Rattle.std.specs.Prelude.{Ok, Err}
use mathlib.Core.Path.{◌≡◌, refl, ◌∙◌}
use Prim.Native.Nat.{ℕ}
use native.Mathlib.Omega.{arith}
use mathlib.Core.List.{List, [], reverse}
use lib.ListN.{length, length-reverse}
use Rattle.base_fields.specs.Answer.{Answer, given, none, refused, and_then}
use Rattle.base_fields.specs.Refusal.{number}
use Rattle.base_fields.specs.declared.refusal.Refusal.{Refusal}
use Rattle.table_rows.specs.Row.{Row, filled}
use Rattle.table_rows.specs.Pattern.{Pattern, samples_of}
use Rattle.table_replay.specs.Replay.{replay}
use Rattle.table_rows.specs.Found.{GivesTable}
use Rattle.table_csgp_head.specs.Csgp.{csgp}
use Rattle.table_csgp.specs.Table.{parse_csgp, csgp_table}
use Rattle.table_csgp_head.specs.Head.{Fixed}
use Rattle.table_csgp.specs.Rows.{rows_for}
use Rattle.table_csgp_head.specs.declared.CsgpHead.{CsgpHead}

module _ (s : List ℕ) (room : ℕ) where
  pub parse_rows : parse_csgp s room ≡ and_then (rows_for s room) (λ rows. given (csgp_table s rows))
  parse_rows = by (csgp s)
    where
      by : (a : Answer (List Pattern)) →
          and_then a (λ ps. and_then (replay room [] (samples_of ps)) (λ rows. given (csgp_table s rows)))
          ≡ and_then (and_then a (λ ps. replay room [] (samples_of ps))) (λ rows. given (csgp_table s rows))
      by (given ps) = refl
      by none = refl
      by (refused n) = refl

  -- refused before the rows, or by them
  pub parse_refused : (n : Refusal) (l : List ℕ) → rows_for s room ≡ refused (number n) → GivesTable (parse_csgp s room) l l (Err n)
  parse_refused n l e = record { answer = rw (parse_rows, e); rows = rw (parse_rows, e) }

  pub parse_given : (head : CsgpHead) → Fixed s head → (l after : List ℕ) {out : List Row} → rows_for s room ≡ given out → after ≡ filled reverse (rows_for s room) l → (n : ℕ) → n ≡ length out →
      GivesTable (parse_csgp s room) l after (Ok (record { grouping_type = head.grouping_type; grouping_type_parameter = head.grouping_type_parameter; entry_count = n }))
  parse_given head f l after {out} e w n m =
      record {
        answer = rw (parse_rows, e, f.grouping_type_of, f.parameter, m, length-reverse out);
        rows = w ∙ rw (parse_rows, e, length-reverse out);
      }

  pub refused-rows : (n : ℕ) → refused n ≡ and_then (rows_for s room) (λ rows. given (length rows)) → rows_for s room ≡ refused n
  refused-rows n e = by (rows_for s room) e
    where
      by : (a : Answer (List Row)) → refused n ≡ and_then a (λ rows. given (length rows)) → a ≡ refused n
      by (given rows) e = let z : ◌≡◌ {A = ℕ} 0 1 = cc in absurd (omega arith)
      by none e = let z : ◌≡◌ {A = ℕ} 0 1 = cc in absurd (omega arith)
      by (refused m) e = let z : n ≡ m = cc in rw z
