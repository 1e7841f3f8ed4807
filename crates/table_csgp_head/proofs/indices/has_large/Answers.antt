-- Where an index can be too large, its highest bit tells; where it cannot be, none is.
use mathlib.Core.Path.{sym, ◌∙◌}
use Rattle.table_csgp_head.proofs.Large.{can_be_large, none-large, highest-large}
use Rattle.table_csgp_head.proofs.indices.has_large.Goals as goal

pub has_highest-requires : goal.has_highest-requires
has_highest-requires c =
    (rw (can_be_large c.args.s.now (sym c.requires.0 ∙ c.if-large.true)).1 at c.requires.1, c.requires.2)

pub returns-then-large : goal.returns-then-large
returns-then-large c =
    let a = c.args in
    highest-large a.s.now a.place a.n c.has_highest.result (sym c.requires.0 ∙ c.if-large.true) c.has_highest.ensures

pub returns : goal.returns
returns c =
    none-large c.args.s.now c.args.place c.args.n (sym c.requires.0 ∙ c.if-large.false)
