use Rattle.atom_path.specs.Told.{level_of}
use Rattle.atom_path.proofs.Cases.{top-level}
use Rattle.atom_path.proofs.level.search_level.Goals as goal

pub level_with-requires : goal.level_with-requires
level_with-requires c = (c.requires.1, c.requires.2)

pub find_in_level-requires : goal.find_in_level-requires
find_in_level-requires c =
    (c.requires.0, c.requires.3, λ e. c.requires.4 (top-level c.level_with.ensures.1 e))

pub returns : goal.returns
returns c =
    record {
      level = level_of c.level_with.result;
      left = c.level_with.ensures.0;
      told = c.find_in_level.ensures;
    }
