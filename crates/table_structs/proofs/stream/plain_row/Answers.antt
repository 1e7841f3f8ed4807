use mathlib.Core.Path.{refl, ◌∙◌}
use native.Mathlib.Omega.{arith}
use Rattle.table_runs.proofs.Steps.{rows-first}
use Rattle.table_structs.proofs.stream.plain_row.Goals as goal

pub returns : goal.returns
returns c =
    let here = c.args.here in
    record {
      first = rows-first here.left c.args.s.now here.pair c.requires.2 ∙ rw (c.read_u32.ensures.0, c.read_u32-2.ensures.0) refl;
      inside = omega (arith, c.requires);
    }
