-- By the number of levels.
use Rattle.atom_path.specs.Told.{levels_left}
use Rattle.atom_path.specs.Path.{Level}
use native.Mathlib.Omega.{arith}
use mathlib.Core.List.{◌∷◌}
use mathlib.Core.Path.{◌≡◌, ap, sym}
use Rattle.atom_path.proofs.level.level_with.Goals as goal

pub returns-in-5 : goal.returns-in-5
returns-in-5 c = let k = c.args.track in
    rw c.in-5.is (ap (λ (l : Level). l ∷ levels_left 4 k) (sym c.level.ensures), ap (λ (l : Level). l.top) c.level.ensures)

pub returns-in-4 : goal.returns-in-4
returns-in-4 c = let k = c.args.track in
    rw c.in-4.is (ap (λ (l : Level). l ∷ levels_left 3 k) (sym c.level-in-4.ensures), ap (λ (l : Level). l.top) c.level-in-4.ensures)

pub returns-in-3 : goal.returns-in-3
returns-in-3 c = let k = c.args.track in
    rw c.in-3.is (ap (λ (l : Level). l ∷ levels_left 2 k) (sym c.level-in-3.ensures), ap (λ (l : Level). l.top) c.level-in-3.ensures)

pub returns-in-2 : goal.returns-in-2
returns-in-2 c = let k = c.args.track in
    rw c.in-2.is (ap (λ (l : Level). l ∷ levels_left 1 k) (sym c.level-in-2.ensures), ap (λ (l : Level). l.top) c.level-in-2.ensures)

pub returns-in_default : goal.returns-in_default
returns-in_default c = let k = c.args.track in
    let last : c.args.levels ≡ 1 = omega arith in
    rw last (ap (λ (l : Level). l ∷ levels_left 0 k) (sym c.level-in_default.ensures), ap (λ (l : Level). l.top) c.level-in_default.ensures)
