-- The half byte behind the pattern length is free.
use mathlib.Core.Path.{refl, ◌∙◌}
use native.Mathlib.Omega.{arith}
use Rattle.table_writing.proofs.Put.{half_length, half-low}
use Rattle.table_writers.proofs.csgp.put_pair.Goals as goal

pub put_number-requires : goal.put_number-requires
put_number-requires c =
    let a = c.args in
    let e = c.put_half.ensures in
    (rw (e, half_length) (omega (arith, c.requires.0)), c.requires.1, rw e (half-low a.h 1 a.out.now (omega (arith, c.requires.0))))

pub returns : goal.returns
returns c =
    c.put_number.ensures ∙ rw c.put_half.ensures refl
