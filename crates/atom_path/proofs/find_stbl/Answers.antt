-- 55, then the search from the top.
use Rattle.atom_path.proofs.Cases.{stbl-long, stbl-short}
use mathlib.Core.Path.{◌∙◌}
use Rattle.atom_path.proofs.find_stbl.Goals as goal

pub returns-then-s-gt-INPUT_LIMIT : goal.returns-then-s-gt-INPUT_LIMIT
returns-then-s-gt-INPUT_LIMIT c = stbl-long _ _ c.if-s-gt-INPUT_LIMIT.true

pub returns : goal.returns
returns c = c.search_below.ensures ∙ stbl-short _ _ c.if-s-gt-INPUT_LIMIT.false
