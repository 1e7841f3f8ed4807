-- For a caller: the listing that an accepted call tells lies within the output.
use mathlib.Core.Path.{◌≡◌, refl}
use mathlib.Core.List.{List}
use Prim.Native.Nat.{ℕ, ◌≤◌}
use native.Mathlib.Omega.{arith}
use lib.ListN.{length}
use Rattle.base_fields.specs.Answer.{Answer, given, none, refused}
use Rattle.std.specs.Prelude.{Result, Ok}
use Rattle.base_fields.specs.declared.refusal.Refusal.{Refusal}
use Rattle.base_fields.proofs.Answers.{given_inj}
use Rattle.table_rows.specs.Row.{records_in}
use Rattle.listing_spec.specs.Cue.{Cue, Lengths, cue_call, reported}
use Rattle.listing_spec.proofs.After.{bytes_fit}
use Rattle.listing_cue.specs.Told.{GivesCue}
use Rattle.listing_cue.specs.declared.CueLengths.{CueLengths}

reported-given : (a : Answer Cue) (n : Lengths) → given n ≡ reported a → (c : Cue) × (a ≡ given c) × (n.listing ≡ length c.bytes)
reported-given (given c) n e = (c, refl, rw (given_inj e) refl)
reported-given none n e = let z : ◌≡◌ {A = ℕ} 0 1 = cc in absurd (omega arith)
reported-given (refused k) n e = let z : ◌≡◌ {A = ℕ} 0 1 = cc in absurd (omega arith)

pub listing-fits : (s : List ℕ) (t : ℕ) (rows out : List ℕ) {rows' out' : List ℕ} {r : Result CueLengths Refusal} (n : CueLengths) → GivesCue (cue_call s t rows out) rows rows' out out' r
    → r ≡ Ok n → n.listing ≤ length out
listing-fits s t rows out n g e =
    let a = reported-given (cue_call s t rows out) _ (rw e at g.answer) in
    rw a.2 (bytes_fit s t (records_in rows) (length out) a.1)
