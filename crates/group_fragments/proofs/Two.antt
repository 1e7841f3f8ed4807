-- Two payloads: the order in which their answers are asked for, and that the entry lies within the one that has it.
use mathlib.Core.Path.{◌≡◌, refl, ◌∙◌}
use mathlib.Core.Bool.{Bool, true, false}
use mathlib.Core.List.{List}
use Prim.Native.Nat.{ℕ, ◌+◌, ◌≤◌}
use lib.Dec.{ltb}
use lib.ListN.{length}
use Rattle.base_fields.specs.Answer.{Answer, given, none, refused, choose, and_then, input_limit}
use Rattle.base_fields.proofs.Answers.{Holds, holds-refuse_if, holds-choose, holds-given, and_then_assoc, and_then-same, holds-and_then}
use Rattle.group_sgpd.specs.Sgpd.{Description, sgpd, parse_sgpd, pick, entry_at}
use Rattle.base_fields.specs.Span.{Span}
use Rattle.group_sgpd.proofs.ByNumber.{Settled, sgpd-settled, Unrefused, pick-unrefused, entry-inside}
use Rattle.group_fragments.specs.Fragments.{Part, local_bit, part_in, described_at, plain_index}

-- the film's entry is asked for first, then the whole of the fragment's payload
abbrev pub film_first : Answer Span → Answer Description → Answer Part
film_first (given e) y = and_then y (λ d. given (record { local = false; span = e }))
film_first none y = and_then y (λ d. none)
film_first (refused n) y = refused n

-- the whole of the film's payload, then the fragment's entry
abbrev pub fragment_last : Answer Description → Answer Span → Answer Part
fragment_last x y = and_then x (λ d. and_then y (λ e. given (record { local = true; span = e })))

module _ (film fragment : List ℕ) (i : ℕ) where
  later : (a : Answer Span) → Unrefused a → film_first a (parse_sgpd fragment) ≡ and_then (sgpd fragment) (λ own. and_then a (λ e. given (record { local = false; span = e })))
  later (given e) u = and_then_assoc (sgpd fragment) _ _
  later none u = and_then_assoc (sgpd fragment) _ _
  later (refused _) u = elim u [ ]

  first : (x : Answer (List Span)) → Settled x →
      film_first (and_then x (λ es. pick es i)) (parse_sgpd fragment) ≡ and_then x (λ wide. and_then (sgpd fragment) (λ own. part_in false wide i))
  first (given es) h = later (pick es i) (pick-unrefused es i)
  first (refused n) h = refl
  first none h = elim h [ ]

  pub film-first : {a : Answer Span} {b : Answer Description} → a ≡ entry_at film i → b ≡ parse_sgpd fragment →
      film_first a b ≡ and_then (sgpd film) (λ wide. and_then (sgpd fragment) (λ own. part_in false wide i))
  film-first e f = rw (e, f) (first (sgpd film) (sgpd-settled film))

  pub fragment-last : {a : Answer Description} {b : Answer Span} → a ≡ parse_sgpd film → b ≡ entry_at fragment i →
      fragment_last a b ≡ and_then (sgpd film) (λ wide. and_then (sgpd fragment) (λ own. part_in true own i))
  fragment-last e f = rw (e, f) (and_then_assoc (sgpd film) _ _ ∙ and_then-same (sgpd film) _ _ (λ wide g. and_then_assoc (sgpd fragment) _ _))

-- an entry that is found lies within the payload that has it
module _ (film fragment : List ℕ) (raw : ℕ) where
  abbrev Inside : Part → Type 0
  Inside p = p.span.place + p.span.size ≤ length (choose p.local fragment film)

  part-holds : (s : List ℕ) (local : Bool) → choose local fragment film ≡ s → (es : List Span) → sgpd s ≡ given es → (i : ℕ) → Holds Inside (part_in local es i)
  part-holds s local c es g i =
      holds-and_then Inside (pick es i) _ (λ e h. rw c (entry-inside s i (rw g h)))

  pub described-inside : {p : Part} → described_at film fragment raw ≡ given p → p.span.place + p.span.size ≤ length (choose p.local fragment film)
  described-inside g =
      holds-given Inside (described_at film fragment raw)
      (holds-refuse_if Inside (ltb input_limit (length film)) 55 _
      (λ a. holds-refuse_if Inside (ltb input_limit (length fragment)) 55 _
      (λ b. holds-and_then Inside (sgpd film) _
      (λ wide u. holds-and_then Inside (sgpd fragment) _
      (λ own v. holds-choose Inside (local_bit raw) _ _
      (λ t. part-holds fragment true refl own v (plain_index raw))
      (λ f. part-holds film false refl wide u (plain_index raw)))))))
      g
