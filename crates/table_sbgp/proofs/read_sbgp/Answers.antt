use mathlib.Core.Path.{ap, sym, ◌∙◌}
use native.Mathlib.Omega.{arith}
use Rattle.base_fields.proofs.Handed.{handed}
use Rattle.table_front.specs.Front.{front_fields}
use Rattle.table_front.specs.Told.{told_front, FrontOf}
use Rattle.table_front.specs.declared.TableKind.TheVariants.{Sbgp}
use Rattle.table_front.proofs.Fronts.{count_place_bounds, front_of, front-refused}
use Rattle.table_sbgp.specs.Sbgp.{table_in, sbgp}
use Rattle.table_sbgp.proofs.Table.{rows_cut, rows-there}
use Rattle.table_sbgp.proofs.read_sbgp.Goals as goal
use Rattle.table_sbgp.proofs.read_sbgp.Goals.{In_ok-front}

-- the front that was read
front : (c : In_ok-front) → FrontOf Sbgp c.args.s.now c.in_ok-front.front
front c = front_of Sbgp _ _ (ap told_front (sym c.in_ok-front.was) ∙ c.read_front.ensures)

pub overflow_add-first : goal.overflow_add-first
overflow_add-first c =
    let o = front (goal.at.overflow_add-first c).In_ok-front in
    omega (arith, o.first, count_place_bounds Sbgp c.args.s.now)

pub returns-then-s-first : goal.returns-then-s-first
returns-then-s-first c = rows_cut _ _ (front (goal.at.returns-then-s-first c).In_ok-front) c.if-s-first.true

pub returns : goal.returns
returns c = rows-there _ _ (front (goal.at.returns c).In_ok-front) c.if-s-first.false

pub returns-in_err-front : goal.returns-in_err-front
unfolding sbgp
returns-in_err-front c =
    let s = c.args.s.now in
    rw (handed c.from_residual.ensures)
    (front-refused Sbgp s (front_fields Sbgp s) (sym (ap told_front (sym c.in_err-front.was) ∙ c.read_front.ensures)) (table_in s))
