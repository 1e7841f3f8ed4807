-- A run of samples of one index.
use Rattle.std.specs.Prelude.{◌≡◌, ℕ, ◌+◌, ◌-◌, ◌*◌, ◌≤◌, ◌<◌, List, replicate}
use Rattle.base_fields.specs.Number.{be_at}
use Rattle.table_rows.specs.Pattern.{Pattern, samples_from}
use Rattle.table_patterns.specs.declared.run.Run.{Run}

-- from number k on, before number `end`: at least one, and all have the same index
pub record AlikeIndices (index : ℕ → ℕ) (k end : ℕ) (r : Run) : Type 0 where
  pub some : 0 < r.count
  pub within : k + r.count ≤ end
  pub same : (j : ℕ) → j < r.count → index (k + j) ≡ r.index

abbrev pub alike : ℕ → ℕ → Run
alike n i = record { count = n; index = i }

-- the eight bytes before place `at` come again and again up to `end`, and that is not past `stop`
pub record SameWords (s : List ℕ) (at stop end : ℕ) : Type 0 where
  pub words : ℕ
  pub ends : end ≡ at + 8 * words
  pub within : end ≤ stop
  pub same : (k : ℕ) → k ≤ words → be_at 8 s (at - 8 + 8 * k) ≡ be_at 8 s (at - 8)

-- the samples of a pattern from sample k on
pub record GivesRun (p : Pattern) (k : ℕ) (r : Run) : Type 0 where
  pub some : 0 < r.count
  pub within : k + r.count ≤ p.count
  pub samples : samples_from p k r.count ≡ replicate r.count r.index
