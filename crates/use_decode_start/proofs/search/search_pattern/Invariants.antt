-- The loop's invariant: the used ones of the indices before position i passed, and the greatest begin of all positions is that of the latest and of those from i on.
use mathlib.Core.Path.{◌≡◌}
use Prim.Native.Nat.{◌≤◌, min}
use Rattle.table_patterns.specs.Place.{pattern_in}
use Rattle.table_views.specs.Search.{larger}
use Rattle.listing_meanings.specs.Meant.{meaning_in}
use Rattle.listing_meanings.proofs.Checking.{PassedBefore}
use Rattle.use_decode_start.specs.Inner.{told_latest, distance_in}
use Rattle.use_decode_start.proofs.Bests.{best_behind}
use Rattle.use_decode_start.proofs.search.search_pattern.Given as goal

abbrev pub invariant-loop-i : goal.invariant-loop-i
invariant-loop-i l =
    let indices = (pattern_in l.table_s l.pattern).indices in
    let behind = best_behind (distance_in l.grouping_type l.s) l.wanted l.start l.pattern.count l.pattern.length indices in
    (l.i ≤ l.pattern.length) × PassedBefore (meaning_in l.grouping_type l.s) indices (min l.i l.pattern.count) × (larger (told_latest l.initial.latest) (behind 0) ≡ larger (told_latest l.latest) (behind l.i))
