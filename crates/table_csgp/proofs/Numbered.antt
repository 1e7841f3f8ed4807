-- The numbers that the reader of a csgp refuses with: none is 0 or 255.
use mathlib.Core.List.{List, []}
use Prim.Native.Nat.{ℕ}
use borrow.Author.Rules.{rules}
use Rattle.base_fields.proofs.Numbered.{Number, Numbered, by-and_then}
use Rattle.table_rows.specs.Pattern.{samples_of}
use Rattle.table_replay.specs.Replay.{replay}
use Rattle.table_replay.proofs.Numbered.{replay-numbered}
use Rattle.table_csgp_head.specs.Csgp.{csgp}
use Rattle.table_csgp_head.proofs.Numbered.{csgp-by}
use Rattle.table_csgp.specs.Table.{parse_csgp}

pub csgp-numbered : (room : ℕ) (s : List ℕ) → Numbered (parse_csgp s room)
csgp-numbered room s =
    by-and_then Number Unit (csgp s) _ (csgp-by Number Unit s (search rules)) (λ ps e.
    by-and_then Number Unit (replay room [] (samples_of ps)) _ (replay-numbered room (samples_of ps) []) (λ rows f. tt))
