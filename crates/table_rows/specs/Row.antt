-- Rows of a sample table (document 01, parts 3 and 5): runs of samples that share a description index.
use Rattle.std.specs.Prelude.{ℕ, ◌+◌, ◌-◌, ◌*◌, ◌/◌, List, [], ◌∷◌, ◌++◌, ltb, length, replicate, drop}
use Rattle.std.proofs.lemmas.List.Edits.{sets}
use Rattle.base_fields.specs.Answer.{Answer, given, none, refused, choose, refuse_if}
use Rattle.base_ids.specs.Limits.{record_limit}

pub record Row : Type 0 where
  pub count : ℕ
  pub index : ℕ

-- how many numbers of a run make a record
abbrev pub record_numbers : ℕ
record_numbers = 2

-- the records of a run of numbers: pairs of a sample count and an index. A last number without a partner is no record
unfoldable pub rows_of : List ℕ → List Row
rows_of [] = []
rows_of (c ∷ []) = []
rows_of (c ∷ i ∷ l) = record { count = c; index = i } ∷ rows_of l

-- what stands for a row past the end
abbrev pub no_row : Row
no_row = record { count = 0; index = 0 }

-- the numbers of rows
unfoldable pub flat : List Row → List ℕ
flat [] = []
flat (r ∷ rs) = r.count ∷ r.index ∷ flat rs

-- how many records a run of numbers has
abbrev pub records_in : List ℕ → ℕ
records_in l = length l / record_numbers

-- a row put over record k: its numbers stored one after the other
abbrev pub put_row : ℕ → ℕ → ℕ → List ℕ → List ℕ
put_row k count index l = sets l (record_numbers * k) (flat (record { count = count; index = index } ∷ []))

-- the samples that rows cover
unfoldable pub covered : List Row → ℕ
covered [] = 0
covered (r ∷ rs) = r.count + covered rs

-- the index of the row that covers sample k, counted from 0; 0 past the end
unfoldable pub index_at : List Row → ℕ → ℕ
index_at [] k = 0
index_at (r ∷ rs) k = choose (ltb k r.count) r.index (index_at rs (k - r.count))

-- the index of each sample that rows cover, in order
unfoldable pub expand : List Row → List ℕ
expand [] = []
expand (r ∷ rs) = replicate r.count r.index ++ expand rs

-- more than so many records are refused, 55
abbrev pub within_records : {A : Type 0} → ℕ → Answer A → Answer A
within_records records rest = refuse_if (ltb record_limit records) 55 rest

-- the answers of the two lookups over a run of numbers (part 5)
abbrev pub lookup : List ℕ → ℕ → Answer ℕ
lookup l k = within_records (records_in l) (given (index_at (rows_of l) k))

abbrev pub total : List ℕ → Answer ℕ
total l = within_records (records_in l) (given (covered (rows_of l)))

-- what parse_sbgp and parse_csgp read: type, parameter and rows
pub record Table : Type 0 where
  pub grouping_type_of : ℕ
  pub parameter : ℕ
  pub rows : List Row

-- a run of numbers after the rows of a value were written in front; on none and refusal it stays
abbrev pub filled : {A : Type 0} → (A → List Row) → Answer A → List ℕ → List ℕ
filled rows (given a) l = flat (rows a) ++ drop (record_numbers * length (rows a)) l
filled rows none l = l
filled rows (refused n) l = l

-- the rows of a table, as `filled` takes them
abbrev pub rows_of_table : Table → List Row
rows_of_table t = t.rows
