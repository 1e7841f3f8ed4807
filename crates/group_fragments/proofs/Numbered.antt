-- A lookup over two payloads refuses with the numbers of an sgpd: none is 0 or 255.
use mathlib.Core.Bool.{Bool, true, false}
use mathlib.Core.List.{List}
use Prim.Native.Nat.{ℕ}
use Rattle.base_fields.specs.Span.{Span}
use Rattle.base_fields.proofs.Numbered.{Number, Numbered, by-choose, by-and_then, numbered_within}
use Rattle.group_sgpd.specs.Sgpd.{sgpd, pick}
use Rattle.group_sgpd.proofs.Numbered.{pick-numbered, sgpd-numbered}
use Rattle.group_fragments.specs.Fragments.{local_bit, plain_index, part_in, described_at}

part-numbered : (local : Bool) (es : List Span) (i : ℕ) → Numbered (part_in local es i)
part-numbered local es i = by-and_then Number Unit (pick es i) _ (pick-numbered es i) (λ e f. tt)

pub described-numbered : (film fragment : List ℕ) (raw : ℕ) → Numbered (described_at film fragment raw)
described-numbered film fragment raw =
    numbered_within film _
    (numbered_within fragment _
    (by-and_then Number Unit (sgpd film) _ (sgpd-numbered film) (λ wide e.
    by-and_then Number Unit (sgpd fragment) _ (sgpd-numbered fragment) (λ own f.
    by-choose Number Unit (local_bit raw) _ _ (part-numbered true own (plain_index raw)) (part-numbered false wide (plain_index raw))))))
