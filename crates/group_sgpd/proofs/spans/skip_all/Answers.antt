use Rattle.group_sgpd.proofs.Heads.{first-is, count-is, among}
use mathlib.Core.Path.{refl, ◌∙◌}
use native.Mathlib.Omega.{arith}
use Rattle.group_sgpd.proofs.spans.skip_all.Goals as goal

pub skip-requires : goal.skip-requires
skip-requires c = let h = c.requires in record { among = among h c.lengths_by-lengths.ensures h.inside; n_le_count = omega arith }

pub returns : goal.returns
returns c = let h = c.requires in c.skip.ensures ∙ rw (count-is h, first-is h) refl
