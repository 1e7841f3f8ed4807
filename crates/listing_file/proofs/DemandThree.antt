-- Demand 3 of document 01 for films (document 02, A1). Two calls of file_cue_listing on any two films, for any tracks and grouping types, with any rows
-- and outputs lent: where both are accepted, the fronts of the two outputs afterwards, each over the length that its call gave, are the same list
-- of bytes exactly when the types are the same, the tables of the two tracks cover the same number of samples, and every sample below that number
-- has the same meaning in both.
--
-- Nothing is assumed but what the contract of file_cue_listing promises of each call, and that bytes are below 256 and types below 2^32.
use mathlib.Core.Path.{◌≡◌, refl, ◌∙◌}
use mathlib.Core.Logic.{◌↔◌}
use mathlib.Core.List.{List}
use Prim.Native.Nat.{ℕ, ◌<◌}
use native.Mathlib.Omega.{arith}
use lib.ListN.{take}
use Rattle.base_fields.specs.Answer as answer
use Rattle.base_fields.specs.Answer.{Answer, given, refused}
use Rattle.std.specs.Prelude.{Result, Ok}
use Rattle.base_fields.specs.declared.refusal.Refusal.{Refusal}
use Rattle.base_fields.specs.Span.{Span, bytes_at, part_of}
use Rattle.base_fields.proofs.Bits.{Bytes}
use Rattle.atom_path.specs.Path.{stbl_at}
use Rattle.listing_theorem.proofs.Samples.{part_bytes}
use Rattle.listing_spec.specs.Meanings.{SameMeanings}
use Rattle.listing_cue.specs.Told.{GivesCue}
use Rattle.listing_cue.specs.declared.CueLengths.{CueLengths}
use Rattle.listing_cue.proofs.DemandThree.{Call, demand_three}
use Rattle.listing_file.specs.File.{file_listing, file_call, stbl_of}

-- a call: its arguments, the lent memory afterwards, and its result, as the contract ties them
pub record FileCall : Type 0 where
  pub film : List ℕ
  pub track : ℕ
  pub type : ℕ
  pub rows : List ℕ
  pub output : List ℕ
  pub rows_after : List ℕ
  pub output_after : List ℕ
  pub result : Result CueLengths Refusal
  pub bytes : Bytes film
  pub small : type < 4294967296
  pub contract : GivesCue (file_call film track type rows output) rows rows_after output output_after result

-- an accepted call found an stbl, and is the call of cue_listing on its body
accepted : (c : FileCall) (n : CueLengths) → c.result ≡ Ok n → (found : Answer Span) → stbl_at c.film c.track ≡ found
    → (s : Call) × (s.body ≡ part_of c.film found) × (s.type ≡ c.type) × (s.output_after ≡ c.output_after) × (s.result ≡ c.result)
unfolding file_listing
accepted c n e (given b) f = (
  record {
    body = bytes_at c.film b;
    type = c.type;
    rows = c.rows;
    output = c.output;
    rows_after = c.rows_after;
    output_after = c.output_after;
    result = c.result;
    bytes = part_bytes b.place b.size c.film c.bytes;
    small = c.small;
    contract = rw f at c.contract;
  },
  refl,
  refl,
  refl,
  refl,
)
accepted c n e answer.none f = let told = rw (e, f) at c.contract.answer in let z : ◌≡◌ {A = ℕ} 0 1 = cc in absurd (omega arith)
accepted c n e (refused k) f = let told = rw (e, f) at c.contract.answer in let z : ◌≡◌ {A = ℕ} 0 1 = cc in absurd (omega arith)

pub demand_three_files : (a b : FileCall) (m n : CueLengths) → a.result ≡ Ok m → b.result ≡ Ok n
    → (take m.listing a.output_after ≡ take n.listing b.output_after)
    ↔ SameMeanings (stbl_of a.film a.track) a.type (stbl_of b.film b.track) b.type
demand_three_files a b m n e f =
    let x = accepted a m e (stbl_at a.film a.track) refl in
    let y = accepted b n f (stbl_at b.film b.track) refl in
    rw (x.1, x.2, x.3, y.1, y.2, y.3) at (demand_three x.0 y.0 m n (x.4 ∙ e) (y.4 ∙ f))
