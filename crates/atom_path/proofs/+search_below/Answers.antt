-- What a level gives stands among the given bytes, so the next level can be searched.
use Rattle.std.proofs.Common.{sym, ◌∙◌, arith}
use Rattle.base_fields.proofs.Handed.{handed}
use Rattle.atom_path.proofs.Bodies.{level-within}
use Rattle.atom_path.proofs.Cases.{down_last, down_level, down_refused}
use Rattle.atom_path.proofs.+search_below.Goals as goal

pub returns-in_err-inner : goal.returns-in_err-inner
returns-in_err-inner t c = let level = c.in_err-inner.ensures in rw (handed c.from_residual.ensures) (down_refused _ _ level.left (sym level.told))

pub returns-then-levels-eq1 : goal.returns-then-levels-eq1
returns-then-levels-eq1 t c = let level = c.in_ok-inner.ensures in down_last _ _ _ _ c.if-levels-eq1.true level.left level.told

pub search_below-requires : goal.search_below-requires
search_below-requires t c =
    let level = c.in_ok-inner.ensures in (
      omega arith,
      (
        c.requires.0,
        omega arith,
        omega arith,
        level-within _ level.level _ c.requires.3 (sym level.told),
        λ e. absurd (omega arith),
      ),
    )

pub returns : goal.returns
returns t c = let level = c.in_ok-inner.ensures in c.search_below.ensures ∙ down_level _ _ level.left (sym level.told)
