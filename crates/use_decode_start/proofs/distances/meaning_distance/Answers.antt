-- Index 0 and an index past the entries have none; else by the entry.
use mathlib.Core.Path.{refl, ap, sym, subst, ◌∙◌}
use Prim.Native.Nat.{◌+◌, ◌≤◌}
use lib.ListN.{length}
use Rattle.base_fields.specs.Span.{bytes_at}
use Rattle.base_fields.specs.Answer.{given, and_then}
use Rattle.base_fields.proofs.Answers.{and_then_assoc}
use Rattle.group_entries.specs.Layout.{decode, layout_of, decode_as}
use Rattle.listing_theorem.specs.Meaning.{value}
use Rattle.listing_meanings.specs.Meant.{meant_at, InsideAt}
use Rattle.listing_meanings.specs.declared.MeaningAt.{MeaningAt}
use Rattle.listing_meanings.proofs.Pairs.{part-short}
use Rattle.use_decode_start.specs.Start.{distance_of_meaning}
use Rattle.use_decode_start.proofs.distances.meaning_distance.Goals as goal
use Rattle.use_decode_start.proofs.distances.meaning_distance.Goals.{In-Entry}

-- an entry, and where it lies
module _ (c : In-Entry) where
  inside : c.in-Entry.part.place + c.in-Entry.part.size ≤ length c.args.s.now
  inside = subst (λ (m : MeaningAt). InsideAt c.args.s.now m) c.in-Entry.is c.requires.1

pub bytes_at-requires : goal.bytes_at-requires
bytes_at-requires c = inside (goal.at.bytes_at-requires c).In-Entry

pub entry_distance-requires : goal.entry_distance-requires
entry_distance-requires c =
    rw c.bytes_at.ensures.bytes (part-short c.args.s.now (record { place = c.in-Entry.part.place; size = c.in-Entry.part.size }) c.requires.0)

pub returns-in-Outside : goal.returns-in-Outside
returns-in-Outside c = rw c.in-Outside.is refl

pub returns-in-Missing : goal.returns-in-Missing
returns-in-Missing c = rw c.in-Missing.is refl

pub returns-in-Entry : goal.returns-in-Entry
unfolding decode
returns-in-Entry c =
    let t = c.args.grouping_type in
    let told = rw (c.layout_of.ensures, c.bytes_at.ensures.bytes) at c.entry_distance.ensures in
    told ∙ sym (ap (λ (x : MeaningAt). and_then (meant_at t c.args.s.now x) (λ v. given (distance_of_meaning v))) c.in-Entry.is
    ∙ and_then_assoc (decode_as (layout_of t) (bytes_at c.args.s.now (record { place = c.in-Entry.part.place; size = c.in-Entry.part.size }))) (λ v. given (value v)) (λ v. given (distance_of_meaning v)))
