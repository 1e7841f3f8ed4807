-- The bytes one by one, each with its weight (`be_at-split`).
use native.Mathlib.Omega.{arith}
use Rattle.base_fields.proofs.Bytes.{be_at-split}
use Rattle.base_fields.proofs.read_u64.Goals as goal

pub returns : goal.returns
returns c = (
  let a = c.args in
      let s = a.s.now in
      let p = a.at in
      omega (arith, be_at-split 1 1 s p, be_at-split 2 1 s p, be_at-split 3 1 s p, be_at-split 4 1 s p, be_at-split 5 1 s p, be_at-split 6 1 s p, be_at-split 7 1 s p),
  omega arith,
)
