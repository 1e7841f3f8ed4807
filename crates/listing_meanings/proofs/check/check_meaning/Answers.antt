-- An entry passes where its layout's decoder gives a value.
use mathlib.Core.Path.{◌≡◌, ap, sym, subst, ◌∙◌}
use mathlib.Core.List.{List}
use Prim.Native.Nat.{ℕ, ◌+◌, ◌≤◌}
use Rattle.std.specs.Prelude.{Result}
use lib.ListN.{length}
use Rattle.base_fields.specs.Answer.{Answer, given, and_then}
use Rattle.base_fields.specs.Refusal.{told_value}
use Rattle.base_fields.specs.Span.{bytes_at, span_of}
use Rattle.base_fields.specs.declared.Part.{Part}
use Rattle.base_fields.specs.declared.refusal.Refusal.{Refusal}
use Rattle.group_sgpd.proofs.Heads.{handed}
use Rattle.group_entries.specs.Layout.{layout_of, decode_as}
use Rattle.group_alike.specs.Front.{front_size}
use Rattle.listing_meanings.specs.Meant.{meant_at, InsideAt}
use Rattle.listing_meanings.specs.declared.MeaningAt.{MeaningAt}
use Rattle.listing_meanings.proofs.Pairs.{part-short, front-passes}
use Rattle.listing_meanings.proofs.check.check_meaning.Goals as goal
use Rattle.listing_meanings.proofs.check.check_meaning.Goals.{After-front_of, In-Entry}

-- an entry, and where it lies
module _ (c : In-Entry) where
  abbrev entry : Part
  entry = c.in-Entry.part

  inside : entry.place + entry.size ≤ length c.args.s.now
  inside = subst (λ (m : MeaningAt). InsideAt c.args.s.now m) c.in-Entry.is c.requires.1

-- what is answered of it
module _ (c : After-front_of) where
  abbrev part : List ℕ
  part = bytes_at c.args.s.now (span_of c.in-Entry.part)

  abbrev t : ℕ
  t = c.args.grouping_type

  fronted : told_value c.front_of.result ≡ and_then (decode_as (layout_of t) part) (λ v. given (front_size (layout_of t) part))
  fronted = rw (c.layout_of-layout.ensures, c.bytes_at.ensures.bytes) at c.front_of.ensures

  abbrev Answers : Result ℕ Refusal → Type 0
  Answers r = ◌≡◌ {A = Answer Unit} (and_then (told_value r) (λ n. given tt)) (and_then (meant_at t c.args.s.now c.args.meaning) (λ v. given tt))

  answered : (r : Result ℕ Refusal) → c.front_of.result ≡ r → Answers r
  answered r e =
      subst Answers e
      (front-passes t part fronted
      ∙ ap (λ (m : MeaningAt). and_then (meant_at t c.args.s.now m) (λ v. given tt)) (sym c.in-Entry.is))

pub bytes_at-requires : goal.bytes_at-requires
bytes_at-requires c = inside (goal.at.bytes_at-requires c).In-Entry

pub front_of-requires : goal.front_of-requires
front_of-requires c =
    rw c.bytes_at.ensures.bytes (part-short c.args.s.now (span_of (entry (goal.at.front_of-requires c).In-Entry)) c.requires.0)

pub returns-in_ok-front_of-in-Entry : goal.returns-in_ok-front_of-in-Entry
returns-in_ok-front_of-in-Entry c = answered (goal.at.returns-in_ok-front_of-in-Entry c).After-front_of _ c.in_ok-front_of-in-Entry.was

pub returns-in_err-front_of-in-Entry : goal.returns-in_err-front_of-in-Entry
returns-in_err-front_of-in-Entry c = rw (handed c.from_residual.ensures) (answered (goal.at.returns-in_err-front_of-in-Entry c).After-front_of _ c.in_err-front_of-in-Entry.was)
