-- The recursion's measure is the number of levels that are left.
use Rattle.atom_path.proofs.+search_below.Given as goal

abbrev pub decreases-search_below : goal.decreases-search_below
decreases-search_below l = l.levels
