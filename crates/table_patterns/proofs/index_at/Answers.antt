-- The place of the index is within the payload, since its position is below the length.
use mathlib.Core.Path.{sym, ◌∙◌}
use Prim.Native.Nat.{◌+◌, ◌*◌, ◌≤◌}
use native.Mathlib.Omega.{arith}
use Rattle.table_patterns.specs.Place.{bit_count}
use Rattle.table_patterns.proofs.Indices.{indices-at}
use Rattle.table_patterns.proofs.Runs.{field_end}
use Rattle.table_patterns.proofs.index_at.Goals as goal
use Rattle.table_patterns.proofs.index_at.Goals.{Start}

inside : (c : Start) → (let p = c.args.pattern in p.indices + p.width * c.args.position + p.width ≤ bit_count c.args.s.now)
inside c =
    let p = c.args.pattern in
    omega (arith, field_end p.width p.indices c.args.position p.length c.requires.1, c.requires.0.inside)

pub overflow_mul-at : goal.overflow_mul-at
overflow_mul-at c = omega (arith, inside (goal.at.overflow_mul-at c).Start, c.requires.0.short)

pub overflow_add-at : goal.overflow_add-at
overflow_add-at c = omega (arith, inside (goal.at.overflow_add-at c).Start, c.requires.0.short)

pub read_index-requires : goal.read_index-requires
read_index-requires c = (c.requires.0, omega arith, inside (goal.at.read_index-requires c).Start)

pub returns : goal.returns
returns c =
    let a = c.args in
    let p = a.pattern in
    c.read_index.ensures.0 ∙ sym (indices-at p.marks p.width a.s.now p.length p.indices a.position c.requires.1)
