-- One place and length; or what decode_alike answers, which is no refusal where both entries decode.
use mathlib.Core.Path.{◌≡◌, refl, ap, sym, ◌∙◌}
use mathlib.Core.List.{List}
use Prim.Native.Nat.{ℕ}
use Rattle.std.specs.Prelude.{Result, Bool}
use Rattle.base_fields.specs.Refusal.{told_value}
use Rattle.base_fields.specs.Span.{bytes_at, span_of}
use Rattle.base_fields.specs.declared.refusal.Refusal.{Refusal}
use Rattle.group_alike.specs.Alike.{alike}
use Rattle.listing_meanings.proofs.Pairs.{are-like, told-like, never-refused}
use Rattle.listing_meanings.proofs.likeness.entries_like.Goals as goal
use Rattle.listing_meanings.proofs.likeness.entries_like.Goals.{After-decode_alike}

-- what is answered of the two entries
module _ (c : After-decode_alike) where
  abbrev one : List ℕ
  one = bytes_at c.args.s.now (span_of c.args.a)

  abbrev other : List ℕ
  other = bytes_at c.args.s.now (span_of c.args.b)

  answered : (r : Result Bool Refusal) → c.decode_alike.result ≡ r → told_value r ≡ alike c.args.grouping_type one other
  answered r e = ap told_value (sym e) ∙ rw (c.bytes_at-entry.ensures.bytes, c.bytes_at-other.ensures.bytes) at c.decode_alike.ensures

pub returns-then-a-b-2 : goal.returns-then-a-b-2
returns-then-a-b-2 c =
    are-like _ _ _ _ (rw (c.if-a-b.true, c.if-a-b-2.true) refl)

pub returns-in-Ok : goal.returns-in-Ok
returns-in-Ok c =
    let pre = c.requires in
    told-like _ _ pre.0 pre.1 pre.2 _ (answered (goal.at.returns-in-Ok c).After-decode_alike _ c.in-Ok.is)

pub returns-in-Err : goal.returns-in-Err
returns-in-Err c =
    let pre = c.requires in
    absurd (never-refused _ _ pre.0 pre.1 pre.2 (answered (goal.at.returns-in-Err c).After-decode_alike _ c.in-Err.is))
