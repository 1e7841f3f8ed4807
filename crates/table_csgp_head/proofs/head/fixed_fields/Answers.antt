use mathlib.Core.Path.{ap, sym, ◌∙◌}
use Rattle.base_fields.proofs.Handed.{handed}
use Rattle.table_front.specs.Front.{front_fields}
use Rattle.table_front.specs.Told.{told_front}
use Rattle.table_front.specs.declared.TableKind.TheVariants.{Csgp}
use Rattle.table_front.proofs.Fronts.{front_of, front-refused}
use Rattle.table_csgp_head.specs.Csgp.{read_all, csgp}
use Rattle.table_csgp_head.proofs.head.fixed_fields.Goals as goal

pub head_of-requires : goal.head_of-requires
head_of-requires c =
    front_of Csgp _ _ (ap told_front (sym c.in_ok-front.was) ∙ c.read_front.ensures)

pub returns-in_err-front : goal.returns-in_err-front
unfolding csgp
returns-in_err-front c =
    let s = c.args.s.now in
    rw (handed c.from_residual.ensures)
    (front-refused Csgp s (front_fields Csgp s) (sym (ap told_front (sym c.in_err-front.was) ∙ c.read_front.ensures)) (read_all s))
