-- By the two fields of the head.
use Rattle.table_csgp_head.proofs.indices.can_be_large.Goals as goal

pub returns : goal.returns
returns c = rw c.if-head.false
