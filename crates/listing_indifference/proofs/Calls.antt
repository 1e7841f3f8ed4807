-- Request A11 of document 02 for the code. Two calls of cue_listing on related bodies, for the same type, with as many numbers and as many bytes lent:
-- the same answer, the same rows in front of the one run as of the other, and the same bytes in front of the outputs. On refusal all lent memory is as
-- it was.
--
-- Nothing is assumed but what the contract of cue_listing promises of each call (`Call` of listing_cue).
use mathlib.Core.Path.{◌≡◌, refl, ap, sym, ◌∙◌}
use mathlib.Core.List.{List}
use Prim.Native.Nat.{ℕ, ◌*◌}
use native.Mathlib.Omega.{arith}
use lib.ListN.{length, take}
use lib.Seq.{take-append_seam}
use Rattle.std.specs.Prelude.{Result, Ok, Err}
use Rattle.base_fields.specs.Answer.{Answer, given, none, refused}
use Rattle.base_fields.specs.declared.refusal.Refusal.{Refusal}
use Rattle.base_fields.specs.Span.{Span, bytes_at}
use Rattle.base_fields.proofs.Answers.{given_inj, refused-given}
use Rattle.table_rows.specs.Row.{record_numbers, flat, records_in}
use Rattle.table_rows.proofs.Rows.{flat-length}
use Rattle.atom_path.specs.Path.{stbl_at}
use Rattle.listing_spec.specs.Cue.{Cue, cue_call, Lengths}
use Rattle.listing_cue.specs.Told.{told_cue, GivesCue}
use Rattle.listing_cue.specs.declared.CueLengths.{CueLengths}
use Rattle.listing_cue.proofs.DemandThree.{Call}
use Rattle.listing_file.specs.File.{file_listing}
use Rattle.listing_file.proofs.DemandThree.{FileCall}
use Rattle.listing_indifference.specs.Body.{Indifferent}
use Rattle.listing_indifference.proofs.Indifferent.{indifferent}
use Rattle.listing_indifference.proofs.RefusalNumbers.{number_inj}

-- the definition's answer
pub calls_same : (t : ℕ) (s s' : List ℕ) → Indifferent t s s' → (rows rows' out out' : List ℕ) → length rows ≡ length rows' → length out ≡ length out'
    → cue_call s t rows out ≡ cue_call s' t rows' out'
calls_same t s s' i rows rows' out out' e f = rw (← e, ← f) (indifferent t s s' i (records_in rows) (length out))

-- a result's answer tells it
told_inj : (r r' : Result CueLengths Refusal) → told_cue r ≡ told_cue r' → r ≡ r'
told_inj (Ok m) (Ok n) e = ap (λ (l : Lengths). Ok (record { listing = l.listing; rows = l.rows })) (given_inj e)
told_inj (Ok m) (Err n) e = absurd (refused-given (sym e))
told_inj (Err m) (Ok n) e = absurd (refused-given e)
told_inj (Err m) (Err n) e = ap (λ (r : Refusal). Err r) (number_inj m n cc)

-- a call's lent run of numbers and output, before and after it, and its result
pub record Runs : Type 0 where
  pub rows : List ℕ
  pub output : List ℕ
  pub rows_after : List ℕ
  pub output_after : List ℕ
  pub result : Result CueLengths Refusal

-- all that was lent is as it was
pub record Kept (a : Runs) : Type 0 where
  pub rows : a.rows_after ≡ a.rows
  pub output : a.output_after ≡ a.output

-- the same answer; of a listing, the same rows and the same bytes in front; of a refusal, nothing written
pub record SameAnswer (a b : Runs) : Type 0 where
  pub result : a.result ≡ b.result
  pub rows : (n : CueLengths) → a.result ≡ Ok n → take (record_numbers * n.rows) a.rows_after ≡ take (record_numbers * n.rows) b.rows_after
  pub output : (n : CueLengths) → a.result ≡ Ok n → take n.listing a.output_after ≡ take n.listing b.output_after
  pub kept : (refusal : Refusal) → a.result ≡ Err refusal → Kept a × Kept b

abbrev pub Gives : Answer Cue → Runs → Type 0
Gives told a = GivesCue told a.rows a.rows_after a.output a.output_after a.result

-- what an accepted call left in front
front : (told : Answer Cue) (a : Runs) → Gives told a → {n : CueLengths} → a.result ≡ Ok n
    → (x : Cue) × (told ≡ given x) × (take (record_numbers * n.rows) a.rows_after ≡ flat x.rows) × (take n.listing a.output_after ≡ x.bytes)
front (given x) a g {n} e =
    let f = given_inj (rw e at g.answer) in
    let many : n.rows ≡ length x.rows = ap (λ (l : Lengths). l.rows) f in
    let long : n.listing ≡ length x.bytes = ap (λ (l : Lengths). l.listing) f in (
      x,
      refl,
      rw (g.rows, many, ← (flat-length x.rows)) (take-append_seam (flat x.rows) _),
      rw (g.output, long) (take-append_seam x.bytes _),
    )
front none a g e = let f = rw e at g.answer in let z : ◌≡◌ {A = ℕ} 0 1 = cc in absurd (omega arith)
front (refused n) a g e = let f = rw e at g.answer in absurd (refused-given (sym f))

-- a refused call wrote nothing
unwritten : (told : Answer Cue) (a : Runs) → Gives told a → {refusal : Refusal} → a.result ≡ Err refusal → Kept a
unwritten (given x) a g e = let f = rw e at g.answer in absurd (refused-given f)
unwritten none a g e = record { rows = g.rows; output = g.output }
unwritten (refused n) a g e = record { rows = g.rows; output = g.output }

-- calls whose contracts name the same answer
pub same_answer : (told : Answer Cue) (a b : Runs) → Gives told a → Gives told b → SameAnswer a b
same_answer told a b g h =
    let same = told_inj a.result b.result (g.answer ∙ sym h.answer) in
    record {
      result = same;
      rows = λ n e.
          let x = front told a g e in
          let y = front told b h (sym same ∙ e) in
          x.2 ∙ ap (λ (c : Cue). flat c.rows) (given_inj (sym x.1 ∙ y.1)) ∙ sym y.2;
      output = λ n e.
          let x = front told a g e in
          let y = front told b h (sym same ∙ e) in
          x.3 ∙ ap (λ (c : Cue). c.bytes) (given_inj (sym x.1 ∙ y.1)) ∙ sym y.3;
      kept = λ n e. (unwritten told a g e, unwritten told b h (sym same ∙ e));
    }

abbrev pub runs_of : Call → Runs
runs_of c = record { rows = c.rows; output = c.output; rows_after = c.rows_after; output_after = c.output_after; result = c.result }

-- A11, for two calls of cue_listing
pub indifferent-calls : (a b : Call) → a.type ≡ b.type → Indifferent a.type a.body b.body → length a.rows ≡ length b.rows
    → length a.output ≡ length b.output → SameAnswer (runs_of a) (runs_of b)
indifferent-calls a b t i e f =
    let same = calls_same a.type a.body b.body i a.rows b.rows a.output b.output e f in
    same_answer (cue_call a.body a.type a.rows a.output) (runs_of a) (runs_of b) a.contract (rw (same, t) b.contract)

abbrev pub file_runs : FileCall → Runs
file_runs c = record { rows = c.rows; output = c.output; rows_after = c.rows_after; output_after = c.output_after; result = c.result }

-- the same of two calls of file_cue_listing, on films in which the bodies of the two tracks' stbl are related
pub indifferent_films : (a b : FileCall) (m n : Span) → stbl_at a.film a.track ≡ given m → stbl_at b.film b.track ≡ given n → a.type ≡ b.type
    → Indifferent a.type (bytes_at a.film m) (bytes_at b.film n) → length a.rows ≡ length b.rows → length a.output ≡ length b.output
    → SameAnswer (file_runs a) (file_runs b)
unfolding file_listing
indifferent_films a b m n x y t i e f =
    let same = calls_same a.type (bytes_at a.film m) (bytes_at b.film n) i a.rows b.rows a.output b.output e f in
    same_answer (cue_call (bytes_at a.film m) a.type a.rows a.output) (file_runs a) (file_runs b)
    (rw x at a.contract) (rw (same, t) (rw y at b.contract))
