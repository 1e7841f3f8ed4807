-- The loop's invariant: the search of the whole table is that of the patterns ahead, cut at the samples that are left, with the latest begin so far.
use mathlib.Core.Path.{◌≡◌}
use Prim.Native.Nat.{suc, ◌+◌}
use Rattle.table_views.specs.Used.{cut, up_to_frame}
use Rattle.table_runs.specs.Ahead.{all_in, ahead_in, WholeIn}
use Rattle.use_decode_start.specs.Inner.{told_latest, searched_on, searched_in}
use Rattle.use_decode_start.proofs.search.search_table.Given as goal

abbrev pub invariant-loop-left : goal.invariant-loop-left
invariant-loop-left l =
    WholeIn l.table_s l.table l.here
    × (l.left + l.start ≡ suc l.wanted)
    × (searched_in l.grouping_type l.s l.wanted (up_to_frame l.wanted (ahead_in l.table_s l.table (all_in l.table)))
    ≡ searched_on l.grouping_type l.s l.wanted l.start (told_latest l.latest) (cut l.left (ahead_in l.table_s l.table l.here)))

abbrev pub decreases-loop-left : goal.decreases-loop-left
decreases-loop-left l = l.here.left
