-- By the size: 8, then `short`; then the type. The bytes of the type are there since the body ends inside s.
use mathlib.Core.Path.{ap}
use native.Mathlib.Omega.{arith}
use Rattle.atom_tree.specs.Told.{size_of}
use Rattle.listing_walk.proofs.Steps.{named_open, named-short, named-taken, named_other}
use Rattle.listing_walk.proofs.visit.named_body.Goals as goal

pub overflow_sub-size : goal.overflow_sub-size
overflow_sub-size c = (rw c.in-Some.is at c.requires).0

pub returns-then-size-lt8 : goal.returns-then-size-lt8
returns-then-size-lt8 c = named-short _ _ _ _ _ (ap size_of c.in-Some.is) c.if-size-lt8.true

pub overflow_add-place : goal.overflow_add-place
overflow_add-place c = omega (arith, rw c.in-Some.is at c.requires)

pub read_u32-grouping-requires : goal.read_u32-grouping-requires
read_u32-grouping-requires c = omega (arith, rw c.in-Some.is at c.requires)

pub returns-in-None : goal.returns-in-None
returns-in-None c = named_open _ _ _ _ (ap size_of c.in-None.is)

pub returns-then-grouping-grouping_type : goal.returns-then-grouping-grouping_type
returns-then-grouping-grouping_type c =
    named-taken _ _ _ _ _ (ap size_of c.in-Some.is) c.if-size-lt8.false c.read_u32-grouping.ensures.0 c.if-grouping-grouping_type.true

pub returns-else-grouping-grouping_type : goal.returns-else-grouping-grouping_type
returns-else-grouping-grouping_type c =
    named_other _ _ _ _ _ (ap size_of c.in-Some.is) c.if-size-lt8.false c.read_u32-grouping.ensures.0 c.if-grouping-grouping_type.false
