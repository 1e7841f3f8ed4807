-- The loop's invariant: what is seen of the positions before i, and the stretches of those before i and before the cut.
use mathlib.Core.Path.{◌≡◌}
use Prim.Native.Nat.{◌≤◌, min}
use lib.ListN.{take}
use Rattle.table_patterns.specs.Place.{pattern_in}
use Rattle.table_views.specs.Stretches.{summary}
use Rattle.use_profile.specs.Survey.{kind_in, survey, told_seen, told_gaps}
use Rattle.use_profile.proofs.Turns.{gap_by}
use Rattle.use_profile.proofs.survey.survey_pattern.Given as goal

abbrev pub invariant-loop-i : goal.invariant-loop-i
invariant-loop-i l =
    let all = (pattern_in l.table_s l.pattern).indices in
    (l.i ≤ l.used) × (told_seen l.turn ≡ survey (kind_in l.s) (take l.i all)) × (told_gaps l.last ≡ summary (gap_by (kind_in l.s)) (take (min l.i l.cut) all))
