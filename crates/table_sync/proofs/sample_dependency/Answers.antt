-- 55, 65, none, and the record by the law of both tables.
use Rattle.table_sync.proofs.Cases.{sdtp_long, sdtp_headless, sdtp_past, sdtp_given}
use Rattle.base_fields.specs.Answer.{given}
use Rattle.table_sync.specs.Sync.{Dependency}
use mathlib.Core.Path.{ap, ◌∙◌}
use Rattle.table_sync.proofs.sample_dependency.Goals as goal

pub returns-then-s-gt-INPUT_LIMIT : goal.returns-then-s-gt-INPUT_LIMIT
returns-then-s-gt-INPUT_LIMIT c = sdtp_long _ _ c.if-s-gt-INPUT_LIMIT.true

pub returns-then-s-lt4 : goal.returns-then-s-lt4
returns-then-s-lt4 c = sdtp_headless _ _ c.if-s-gt-INPUT_LIMIT.false c.if-s-lt4.true

pub returns-then-s-k : goal.returns-then-s-k
returns-then-s-k c = sdtp_past _ _ c.if-s-gt-INPUT_LIMIT.false c.if-s-lt4.false c.if-s-k.true

pub returns : goal.returns
returns c = ap (λ (d : Dependency). given d) c.dependency_of.ensures ∙ sdtp_given _ _ c.if-s-gt-INPUT_LIMIT.false c.if-s-lt4.false c.if-s-k.false c.read_u8.ensures.0
