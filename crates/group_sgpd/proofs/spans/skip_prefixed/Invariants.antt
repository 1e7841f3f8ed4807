-- The loop's invariant: the place behind n entries is the one behind those left, from here on.
use Rattle.group_sgpd.specs.Head.{after}
use lib.ListN.{length}
use Prim.Native.Nat.{◌-◌, ◌≤◌}
use mathlib.Core.Path.{◌≡◌}
use Rattle.group_sgpd.proofs.spans.skip_prefixed.Given as goal

abbrev pub invariant-loop : goal.invariant-loop
invariant-loop l = (l.bytes ≤ length l.s) × (after l.n l.s l.at ≡ after (l.n - l.counter) l.s (length l.s - l.bytes))
