-- Index 0 and an index past the entries by themselves; else by the entry.
use mathlib.Core.Path.{refl, ap, sym, subst, ◌∙◌}
use Prim.Native.Nat.{◌+◌, ◌≤◌}
use lib.ListN.{length}
use Rattle.base_fields.specs.Fourcc as fourcc
use Rattle.listing_meanings.specs.Meant.{meant_at, InsideAt}
use Rattle.listing_meanings.specs.declared.MeaningAt.{MeaningAt}
use Rattle.listing_meanings.proofs.Pairs.{part-short}
use Rattle.use_profile.specs.Survey.{kind_told}
use Rattle.use_profile.proofs.kinds.meaning_kind.Goals as goal
use Rattle.use_profile.proofs.kinds.meaning_kind.Goals.{In-Entry}

-- an entry, and where it lies
module _ (c : In-Entry) where
  inside : c.in-Entry.part.place + c.in-Entry.part.size ≤ length c.args.s.now
  inside = subst (λ (m : MeaningAt). InsideAt c.args.s.now m) c.in-Entry.is c.requires.1

pub bytes_at-requires : goal.bytes_at-requires
bytes_at-requires c = inside c

pub entry_kind-requires : goal.entry_kind-requires
entry_kind-requires c =
    rw c.bytes_at.ensures.bytes (part-short c.args.s.now (record { place = c.in-Entry.part.place; size = c.in-Entry.part.size }) c.requires.0)

pub returns-in-Outside : goal.returns-in-Outside
returns-in-Outside c = rw c.in-Outside.is refl

pub returns-in-Missing : goal.returns-in-Missing
returns-in-Missing c = rw c.in-Missing.is refl

pub returns-in-Entry : goal.returns-in-Entry
returns-in-Entry c =
    (rw c.bytes_at.ensures.bytes at c.entry_kind.ensures)
    ∙ sym (ap (λ (x : MeaningAt). kind_told (meant_at fourcc.rap c.args.s.now x)) c.in-Entry.is)
