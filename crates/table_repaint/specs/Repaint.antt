-- A stretch of samples repainted (document 02, A10). Rows stand in the first `stated` records of a run of numbers; spare records follow.
use Rattle.std.specs.Prelude.{ℕ, suc, List, [], ◌∷◌, reverse, ltb, leb, length, take}
use Rattle.base_fields.specs.Answer.{Answer, given, choose, refuse_if, and_then}
use Rattle.table_rows.specs.Row.{Row, rows_of, covered, expand, records_in, within_records, filled}
use Rattle.table_replay.specs.Replay.{replay}

-- the changed map, from sample k on: sample k has the index i where a ≤ k < b, else what it had
unfoldable pub changed_from : ℕ → ℕ → ℕ → ℕ → List ℕ → List ℕ
changed_from k a b i [] = []
changed_from k a b i (x ∷ xs) = choose (leb a k) (choose (ltb k b) i x) x ∷ changed_from (suc k) a b i xs

abbrev pub changed : ℕ → ℕ → ℕ → List ℕ → List ℕ
changed a b i xs = changed_from 0 a b i xs

-- the rows that fill the stated records
abbrev pub stated_rows : List ℕ → ℕ → List Row
stated_rows l stated = take stated (rows_of l)

-- the joined rows of samples, as part 4's replay makes them with room for so many: 28, 29
abbrev pub rows_within : ℕ → List ℕ → Answer (List Row)
rows_within room samples = and_then (replay room [] samples) (λ out. given (reverse out))

-- the stretch from a up to but not b, and the rows that it is a stretch of: 70
abbrev pub stretch_in : {A : Type 0} → ℕ → ℕ → List Row → Answer A → Answer A
stretch_in a b rows rest = refuse_if (leb b a) 70 (refuse_if (ltb (covered rows) b) 70 rest)

-- the new rows, or the refusal of both calls: 55, 70, then 28 and 29 as in the replay, with room for as many rows as the run has records
unfoldable pub repainted : List ℕ → ℕ → ℕ → ℕ → ℕ → Answer (List Row)
repainted l stated a b i =
    within_records (records_in l)
    (refuse_if (ltb (records_in l) stated) 70
    (stretch_in a b (stated_rows l stated) (rows_within (records_in l) (changed a b i (expand (stated_rows l stated))))))

-- what both calls answer: the row count, or the refusal
abbrev pub rows_counted : Answer (List Row) → Answer ℕ
rows_counted told = and_then told (λ rs. given (length rs))

-- the run after the edit: the new rows in front, every record behind the last of them as it was; on refusal all of it stays
abbrev pub run_after : Answer (List Row) → List ℕ → List ℕ
run_after told l = filled (λ rs. rs) told l
