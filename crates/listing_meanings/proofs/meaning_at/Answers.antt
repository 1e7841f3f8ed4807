-- Index 0 is outside; else by the entry that is found. No entry of a payload that was read whole is refused.
use mathlib.Core.Path.{sym}
use Rattle.listing_meanings.proofs.Found.{gives-outside, gives-entry, gives-missing, unrefused}
use Rattle.listing_meanings.proofs.meaning_at.Goals as goal

pub returns-then-index-eq0 : goal.returns-then-index-eq0
returns-then-index-eq0 c = gives-outside c.requires.0 c.args.index.0 c.if-index-eq0.true

pub returns-in-Ok-Some : goal.returns-in-Ok-Some
returns-in-Ok-Some c =
    gives-entry c.requires.0 c.args.index.0 (sym (rw c.in-Ok-Some.field-0-is at c.in-Ok-Some.ensures))

pub returns-in-Ok-None : goal.returns-in-Ok-None
returns-in-Ok-None c =
    gives-missing c.requires.0 c.args.index.0 c.if-index-eq0.false (sym (rw c.in-Ok-None.field-0-is at c.in-Ok-None.ensures))

pub returns-in-Err : goal.returns-in-Err
returns-in-Err c =
    absurd (unrefused c.requires.0 c.args.index.0 (sym c.in-Err.ensures))
