use mathlib.Core.Path.{◌≡◌, ◌∙◌}
use Prim.Native.Nat.{◌+◌, ◌*◌, ◌<◌}
use native.Mathlib.Omega.{arith}
use lib.ListN.{length, length-set}
use Rattle.group_entries.proofs.Points.{no_points, points-in-front, put-several}
use Rattle.group_entries.proofs.rash.put_points.Goals as goal

pub loop-k-init : goal.loop-k-init
loop-k-init c = no_points _ _

pub bounds-run-k-in-loop-k : goal.bounds-run-k-in-loop-k
bounds-run-k-in-loop-k c = simp length-set (omega arith)

pub loop-k-preserved : goal.loop-k-preserved
loop-k-preserved c =
    let h : 2 * c.loop-k.k + 1 < length c.args.run.now = omega arith in
    rw (c.loop-k.invariant, c.read_u32-bitrate.ensures.0, c.read_u16-share.ensures.0) (put-several _ _ _ c.requires.fact h)

pub returns : goal.returns
returns c =
    let e : c.loop-k.k ≡ c.args.count = omega arith in
    rw e at c.loop-k.invariant ∙ points-in-front _ _ _
