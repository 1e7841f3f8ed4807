-- The bytes behind n, or none where there are fewer.
use mathlib.Core.Path.{sym}
use Prim.Native.Nat.{◌-◌, ◌≤◌}
use native.Mathlib.Omega.{arith}
use lib.ListN.{length, drop, length-drop, drop_of_length-le}
use lib.Seq.{take_all}
use Rattle.test_vector_lines.proofs.text.rest.Goals as goal

pub returns-then-bytes-n : goal.returns-then-bytes-n
returns-then-bytes-n c =
    let a = c.args in
    let h : length a.bytes.now ≤ a.n = omega arith in
    sym (drop_of_length-le a.bytes.now h)

pub returns : goal.returns
returns c =
    let a = c.args in
    take_all (length a.bytes.now - a.n) (drop a.n a.bytes.now) (simp length-drop (omega arith))
