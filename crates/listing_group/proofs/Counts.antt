-- A table that covers no more samples than the limit of a count: its rows can be made where records never run out.
use mathlib.Core.Path.{◌≡◌, refl, sym}
use mathlib.Core.List.{List, []}
use Prim.Native.Nat.{ℕ, ◌≤◌}
use native.Mathlib.Omega.{arith}
use lib.ListN.{length}
use Rattle.base_fields.specs.Answer.{Answer, given, refused, and_then}
use Rattle.base_fields.proofs.Answers.{given-first, refused-first}
use Rattle.base_ids.specs.Limits.{count_limit}
use Rattle.table_rows.specs.Row.{Table}
use Rattle.table_rows.specs.Pattern.{samples_of, covered_by}
use Rattle.table_rows.proofs.Samples.{covered_by-samples}
use Rattle.table_replay.proofs.Replay.{replay-fits}
use Rattle.table_sbgp.specs.Sbgp.{parse_sbgp}
use Rattle.table_runs.specs.Ahead.{all_in, ahead_in, LaidIn}
use Rattle.table_runs.specs.declared.SampleTable.{SampleTable}
use Rattle.table_runs.specs.declared.SampleTable.TheVariants as table
use Rattle.table_records.specs.Lent.{table_from}
use Rattle.table_records.proofs.Lent.{rows-counted}
use Rattle.table_needed.specs.Needed.{unlimited}

-- whether there is a value
abbrev pub is_given : {A : Type 0} → Answer A → Answer Unit
is_given a = and_then a (λ x. given tt)

-- by the count of the rows
module _ (told : Answer Table) where
  pub counted-given : {n : ℕ} → given n ≡ and_then told (λ t. given (length t.rows)) → given tt ≡ is_given told
  counted-given e = let made = given-first told (λ t. given (length t.rows)) (sym e) in rw made.1 refl

  pub counted-refused : {n : ℕ} → refused n ≡ and_then told (λ t. given (length t.rows)) → refused n ≡ is_given told
  counted-refused e = let none = refused-first told (λ t. length t.rows) (sym e) in rw none refl

pub short-fits : (s : List ℕ) (t : SampleTable) → LaidIn s t → covered_by (ahead_in s t (all_in t)) ≤ count_limit → given tt ≡ is_given (table_from s t unlimited)
short-fits s (table.Rows h) l c =
    counted-given (parse_sbgp s unlimited) (rows-counted s unlimited h l (omega (arith, l.inside, l.short)))
short-fits s (table.Patterns h) l c =
    let ps = ahead_in s (table.Patterns h) (all_in (table.Patterns h)) in
    let n = covered_by-samples ps in
    let made = replay-fits unlimited [] (samples_of ps) (record { counts = omega (arith, c, n); records = omega (arith, c, n) }) in
    rw (l.patterns, made.1) refl

-- by the samples that are covered, where the rows need not be counted
module _ (told : Answer Table) (m : ℕ) where
  pub covered-given : {n : ℕ} → n ≡ m → given tt ≡ is_given told → given n ≡ and_then told (λ x. given m)
  covered-given e f = let made = given-first told (λ x. given tt) (sym f) in rw (made.1, e) refl

  pub covered-refused : {n : ℕ} → refused n ≡ is_given told → refused n ≡ and_then told (λ x. given m)
  covered-refused f = let none = refused-first told (λ x. tt) (sym f) in rw none refl
