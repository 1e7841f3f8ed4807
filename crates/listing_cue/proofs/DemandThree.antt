-- Demand 3 of document 01, for the code. Two calls of cue_listing on any two bodies, for any grouping types, with any rows and outputs lent:
-- where both are accepted, the fronts of the two outputs afterwards, each over the length that its call gave, are the same list of bytes
-- exactly when the types are the same, both tables cover the same number of samples, and every sample below that number has the same meaning
-- in both.
--
-- Nothing is assumed but what the contract of cue_listing promises of each call (`GivesCue`), and that bytes are below 256 and types below 2^32, which
-- u8 and u32 are.
use mathlib.Core.Path.{◌≡◌, sym}
use mathlib.Core.Logic.{◌↔◌}
use mathlib.Core.List.{List}
use Prim.Native.Nat.{ℕ, ◌<◌}
use lib.ListN.{take}
use Rattle.std.specs.Prelude.{Result, Ok}
use Rattle.base_fields.specs.declared.refusal.Refusal.{Refusal}
use Rattle.base_fields.proofs.Bits.{Bytes}
use Rattle.listing_spec.specs.Cue.{cue_call}
use Rattle.listing_spec.specs.Meanings.{SameMeanings}
use Rattle.listing_spec.proofs.DemandThree.{demand_three_calls}
use Rattle.listing_cue.specs.Told.{GivesCue}
use Rattle.listing_cue.specs.declared.CueLengths.{CueLengths}

-- a call: its arguments, the lent memory afterwards, and its result, as the contract ties them
pub record Call : Type 0 where
  pub body : List ℕ
  pub type : ℕ
  pub rows : List ℕ
  pub output : List ℕ
  pub rows_after : List ℕ
  pub output_after : List ℕ
  pub result : Result CueLengths Refusal
  pub bytes : Bytes body
  pub small : type < 4294967296
  pub contract : GivesCue (cue_call body type rows output) rows rows_after output output_after result

pub demand_three : (a b : Call) (m n : CueLengths) → a.result ≡ Ok m → b.result ≡ Ok n
    → (take m.listing a.output_after ≡ take n.listing b.output_after) ↔ SameMeanings a.body a.type b.body b.type
demand_three a b m n e f =
    let g = rw e at a.contract.answer in
    let h = rw f at b.contract.answer in
    rw (a.contract.output, b.contract.output)
    (demand_three_calls a.body b.body a.type b.type a.bytes b.bytes a.small b.small a.rows b.rows a.output b.output (sym g) (sym h))
