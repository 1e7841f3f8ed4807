-- The answer by runs: what the code of the preview computes, without expanding a sample.
use mathlib.Core.Path.{◌≡◌, refl, ap, sym, ◌∙◌}
use Prim.Native.Nat.{ℕ, ◌-◌, ◌≤◌, min}
use native.Mathlib.Omega.{arith}
use borrow.Author.Tests.{leb-false}
use mathlib.Core.List.{List, [], ◌∷◌, ◌++◌, reverse}
use lib.Dec.{ltb, leb}
use lib.ListN.{length-reverse}
use Rattle.base_fields.specs.Answer.{Answer, given, none, refused, refuse_if, and_then}
use Rattle.base_fields.proofs.Answers.{and_then_assoc, and_then-refuse_if}
use Rattle.base_fields.proofs.Both.{refuse_same}
use Rattle.base_ids.specs.Limits.{record_limit}
use Rattle.table_rows.specs.Row.{Row, covered, expand, records_in, within_records}
use Rattle.table_replay.specs.Enter.{tail_of}
use Rattle.table_replay.specs.Replay.{replay}
use Rattle.table_replay.specs.declared.enter.Tail.{Tail}
use Rattle.table_replay.proofs.Entering.{tail-length}
use Rattle.table_replay.proofs.Longest.{SmallCounts}
use Rattle.table_repaint.specs.Repaint.{changed, stated_rows, rows_within, stretch_in, repainted, rows_counted}
use Rattle.table_repaint.specs.Cut.{pieces, rows_cut, tail_run, tail_runs, tail_rows, tail_count}
use Rattle.table_repaint.proofs.Runs.{tail-runs}
use Rattle.table_repaint.proofs.Cut.{expand-cut, cut-counts}

-- row by row
tail_append : (room : ℕ) (t : Tail) (rs ts : List Row) → tail_runs room t (rs ++ ts) ≡ and_then (tail_runs room t rs) (λ next. tail_runs room next ts)
unfolding tail_runs
tail_append room t [] ts = refl
tail_append room t (r ∷ rs) ts = (λ k. and_then (tail_run room t r) (λ next. tail_append room next rs ts k)) ∙ sym (and_then_assoc (tail_run room t r) _ _)

pub tail-rows : (room a b i : ℕ) (t : Tail) (rs : List Row) → tail_rows room a b i t rs ≡ tail_runs room t (rows_cut a b i rs)
unfolding tail_rows tail_runs rows_cut
tail-rows room a b i t [] = refl
tail-rows room a b i t (r ∷ rs) =
    let x = a - min r.count a in
    let y = b - min r.count b in
    (λ k. and_then (tail_runs room t (pieces a b i r)) (λ next. tail-rows room x y i next rs k)) ∙ sym (tail_append room t (pieces a b i r) (rows_cut x y i rs))

-- the row count of the changed map, or the replay's refusal
pub count-repainted : (room a b i : ℕ) (rs : List Row) → a ≤ b → SmallCounts rs
    → tail_count room a b i (tail_of []) rs ≡ rows_counted (rows_within room (changed a b i (expand rs)))
count-repainted room a b i rs h c =
    let samples = changed a b i (expand rs) in
    rw (tail-rows room a b i (tail_of []) rs, tail-runs room [] (rows_cut a b i rs) (omega arith) (cut-counts a b i rs c), expand-cut a b i h rs)
    (by (replay room [] samples))
  where
    by : (told : Answer (List Row))
        → and_then (and_then told (λ last. given (tail_of last))) (λ t. given t.rows) ≡ rows_counted (and_then told (λ out. given (reverse out)))
    by (given out) = ap given (tail-length out ∙ sym (length-reverse out))
    by none = refl
    by (refused n) = refl

-- the whole answer of both calls
pub answer-by-rows : (l : List ℕ) (stated a b i : ℕ) → SmallCounts (stated_rows l stated)
    → rows_counted (repainted l stated a b i)
    ≡ within_records (records_in l) (refuse_if (ltb (records_in l) stated) 70
    (stretch_in a b (stated_rows l stated) (tail_count (records_in l) a b i (tail_of []) (stated_rows l stated))))
unfolding repainted
answer-by-rows l stated a b i c =
    let old = stated_rows l stated in
    simp and_then-refuse_if
    (refuse_same (ltb record_limit (records_in l)) 55 (λ p. refuse_same (ltb (records_in l) stated) 70 (λ q. refuse_same (leb b a) 70 (λ e.
    let h = leb-false b a e in
    refuse_same (ltb (covered old) b) 70 (λ s. sym (count-repainted (records_in l) a b i old (omega arith) c))))))
