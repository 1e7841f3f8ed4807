-- Five bytes in the input are read as four and one; where some are missing, each is read by itself, as 0 past the end.
use native.Mathlib.Omega.{arith}
use Rattle.base_fields.proofs.Bytes.{be_at-split}
use Rattle.base_fields.proofs.window.Goals as goal

pub returns-then-at-s : goal.returns-then-at-s
returns-then-at-s c = (let a = c.args in omega (arith, be_at-split 4 1 a.s.now a.at), omega arith)

pub returns : goal.returns
returns c = (
  let a = c.args in
      let s = a.s.now in
      let p = a.at in
      omega (arith, be_at-split 1 1 s p, be_at-split 2 1 s p, be_at-split 3 1 s p, be_at-split 4 1 s p),
  omega arith,
)
