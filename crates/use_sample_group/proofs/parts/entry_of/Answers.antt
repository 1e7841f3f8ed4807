-- By what is told of the entry: the laws of `Found`.
use Rattle.std.proofs.lemmas.Result.{err_from_is_err_and}
use Rattle.use_sample_group.proofs.Found.{told-entry, told-outside, told-missing, told-refused}
use Rattle.use_sample_group.proofs.parts.entry_of.Goals as goal

pub returns-in_err-part : goal.returns-in_err-part
returns-in_err-part c =
    let a = c.args in
    let out = err_from_is_err_and c.from_residual.result c.from_residual.ensures.1 in
    rw (out.1, out.2) (told-refused a.s.now a.index.0 (rw c.in_err-part.was at c.entry_place.ensures))

pub returns-in-Some : goal.returns-in-Some
returns-in-Some c =
    let a = c.args in
    told-entry a.s.now a.index.0 (rw (c.in_ok-part.was, c.in-Some.is) at c.entry_place.ensures)

pub returns-then-index-eq0 : goal.returns-then-index-eq0
returns-then-index-eq0 c =
    let a = c.args in
    told-outside a.s.now a.index.0 (rw (c.in_ok-part.was, c.in-None.is) at c.entry_place.ensures) c.if-index-eq0.true

pub returns-else-index-eq0 : goal.returns-else-index-eq0
returns-else-index-eq0 c =
    let a = c.args in
    told-missing a.s.now a.index.0 (rw (c.in_ok-part.was, c.in-None.is) at c.entry_place.ensures) c.if-index-eq0.false
