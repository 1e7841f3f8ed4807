use mathlib.Core.Path.{refl, sym}
use Prim.Native.Nat.{ℕ}
use native.Mathlib.Omega.{arith}
use native.Mathlib.Numerals.{add-one}
use lib.Seq.{take-suc}
use Rattle.listing_numbers.specs.Store.{stored}
use Rattle.listing_numbers.proofs.Stores.{stored_past, puts_then}
use Rattle.listing_values.proofs.raw.put_bytes.Goals as goal

pub returns-then-out-at : goal.returns-then-out-at
returns-then-out-at c = record { output = sym (stored_past _ _ _ c.if-out-at.true); next = refl }

pub loop-byte-init : goal.loop-byte-init
unfolding stored
loop-byte-init c = record { output = refl; next = omega arith }

pub loop-byte-preserved : goal.loop-byte-preserved
loop-byte-preserved c =
    let l = c.loop-byte in
    rw (add-one, take-suc {A = ℕ} _ l.byte-index 0 c.loop-byte-test.true) (puts_then l.invariant c.put_byte-place.ensures)
