-- Sample tables: each answer and the numbers of the lent rows afterwards. A call that is refused leaves the sevens.
use Rattle.std.specs.Prelude.{ℕ, List, [], ◌∷◌, replicate}
use Rattle.base_fields.specs.Answer.{Answer, given, refused}
use Rattle.base_fields.specs.Refusal.{told_value}
use Rattle.table_rows.specs.Found.{TableHead, told_table, told_index}
use Rattle.test_starred.specs.Case.{Case, gives}
use Rattle.test_starred_calls.specs.declared.tables.SbgpAnswers.{SbgpAnswers}
use Rattle.test_starred_calls.specs.declared.tables.CsgpAnswers.{CsgpAnswers}

-- type "rap ", parameter 0, so many rows
abbrev pub table_of : ℕ → Answer TableHead
table_of n = given (record { grouping_type_of = 0x72617020; parameter = 0; row_count = n })

abbrev pub sbgp_answered : SbgpAnswers → List Case
sbgp_answered r =
    gives (told_table r.read) (table_of 3) ∷
    gives r.rows (3 ∷ 1 ∷ 0 ∷ 9 ∷ 2 ∷ 1 ∷ []) ∷
    gives (told_index r.sample_4) (given 1) ∷
    gives (told_index r.sample_5) (given 0) ∷
    gives (told_value r.covered) (given 5) ∷
    gives (told_table r.short) (refused 29) ∷
    gives r.short_rows (replicate 4 7) ∷
    []

abbrev pub csgp_answered : CsgpAnswers → List Case
csgp_answered r =
    gives (told_table r.period) (table_of 5) ∷
    gives r.period_rows (1 ∷ 1 ∷ 2 ∷ 2 ∷ 1 ∷ 1 ∷ 2 ∷ 2 ∷ 1 ∷ 1 ∷ []) ∷
    gives (told_table r.short) (refused 29) ∷
    gives r.short_rows (replicate 8 7) ∷
    gives (told_table r.joined) (table_of 3) ∷
    gives r.joined_rows (3 ∷ 5 ∷ 1 ∷ 6 ∷ 1 ∷ 5 ∷ []) ∷
    gives (told_table r.unused) (table_of 1) ∷
    gives r.unused_rows (1 ∷ 8 ∷ []) ∷
    gives (told_table r.cut) (refused 24) ∷
    gives r.cut_rows (replicate 2 7) ∷
    gives (told_table r.no_length) (refused 26) ∷
    gives r.no_length_rows (replicate 2 7) ∷
    []
