-- By the decoder.
use mathlib.Core.Path.{refl, sym, ◌∙◌}
use Rattle.use_profile.proofs.Meant.{entry-given, entry-refused}
use Rattle.use_profile.proofs.kinds.entry_kind.Goals as goal

pub returns-then-v : goal.returns-then-v
returns-then-v c =
    let decoded = rw c.in-Ok.is at c.decode_rap.ensures in
    sym (entry-given c.args.entry.now c.requires decoded ∙ rw c.if-v.true refl)

pub returns-else-v : goal.returns-else-v
returns-else-v c =
    let decoded = rw c.in-Ok.is at c.decode_rap.ensures in
    sym (entry-given c.args.entry.now c.requires decoded ∙ rw c.if-v.false refl)

pub returns-in-Err : goal.returns-in-Err
returns-in-Err c =
    sym (entry-refused c.args.entry.now c.requires (rw c.in-Err.is at c.decode_rap.ensures))
