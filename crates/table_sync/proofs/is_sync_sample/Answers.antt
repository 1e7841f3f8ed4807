-- The greatest number up to the sample plus 1 is that number exactly where it is among them.
use mathlib.Core.Path.{ap, sym, ◌∙◌}
use Rattle.base_fields.specs.Refusal.{told_value}
use Rattle.table_sync.specs.Sync.{stss}
use Rattle.table_sync.proofs.Cases.{sync_told}
use Rattle.table_sync.proofs.is_sync_sample.Goals as goal

pub returns : goal.returns
returns c = let a = c.args in sync_told (stss a.s.now) a.sample.0 (sym c.number_up_to.ensures ∙ ap told_value c.in_ok-n.was)
