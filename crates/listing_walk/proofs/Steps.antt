-- The steps of the walk, by what the code's smaller steps answer.
use mathlib.Core.Path.{◌≡◌, refl}
use mathlib.Core.Bool.{Bool, true, false}
use mathlib.Core.List.{List}
use mathlib.Core.Option.{none, some}
use Prim.Native.Nat.{ℕ, ◌+◌, ◌-◌, ◌<◌, ◌≤◌}
use native.Mathlib.Omega.{arith}
use borrow.Author.Tests.{lt-ltb, le-ltb, eq-eqb, ne_eqb}
use lib.Dec.{ltb, eqb}
use lib.ListN.{length}
use Rattle.base_fields.specs.Answer as answer
use Rattle.base_fields.specs.Answer.{Answer, given, refused, choose, refuse_if, and_then, input_limit}
use Rattle.base_fields.specs.Number.{be_at}
use Rattle.base_fields.specs.Span.{Span}
use Rattle.base_fields.proofs.Answers.{within-short}
use Rattle.atom_tree.specs.Atom.{Known, Header, Child, Ends, child_at, declared}
use Rattle.listing_spec.specs.Walk.{sbgp_type, csgp_type, sgpd_type, TakenTable, sbgp_at, csgp_at, Taken, nothing, body_of, grouping_of, visit_table, visit_sgpd, visit, walk_from, found, sources}
use Rattle.atom_tree.proofs.Onward.{EndsAt, child-onward}
use Rattle.listing_walk.specs.Seen.{SpanEnds, EndsInside, named_body, take_table, take_sgpd}

-- a body that is looked at, by its header's size
module _ (s : List ℕ) (t short : ℕ) (h : Header) where
  pub named_open : h.size ≡ none → refused 8 ≡ named_body s t short h
  unfolding named_body body_of
  named_open e = rw e refl

  module _ (n : ℕ) (sized : h.size ≡ some n) where
    pub named-short : n - h.header_length < 8 → refused short ≡ named_body s t short h
    unfolding named_body body_of
    named-short l = rw sized (simp (lt-ltb (n - h.header_length) 8 l))

    module _ (long : 8 ≤ n - h.header_length) {grouping : ℕ} (is : grouping ≡ be_at 4 s (h.body + 4)) where
      pub named-taken : grouping ≡ t → given (record { place = h.body; size = n - h.header_length }) ≡ named_body s t short h
      unfolding named_body body_of
      named-taken e = rw sized (simp (le-ltb (n - h.header_length) 8 long, ← is, eq-eqb grouping t e))

      pub named_other : (grouping ≡ t → ⊥) → answer.none ≡ named_body s t short h
      unfolding named_body body_of
      named_other e = rw sized (simp (le-ltb (n - h.header_length) 8 long, ← is, ne_eqb grouping t e))

-- a body of another type is passed over; a refusal stays
abbrev pub or_passed : {A B : Type 0} → Answer A → B → (A → Answer B) → Answer B
or_passed (given a) seen take = take a
or_passed answer.none seen take = given seen
or_passed (refused n) seen take = refused n

-- a body that is looked at is never none, so none can say that it is of another type
module _ (test : Span → Bool) (seen : Taken) (take : Span → Answer Taken) where
  by-type : (named : Bool) (b : Span) → choose named (take b) (given seen) ≡ or_passed (choose named (given b) answer.none) seen take
  by-type true b = refl
  by-type false b = refl

  by_length : (small : Bool) (short : ℕ) (b : Span) → and_then (refuse_if small short (given b)) (λ b. choose (test b) (take b) (given seen))
      ≡ or_passed (and_then (refuse_if small short (given b)) (λ b. choose (test b) (given b) answer.none)) seen take
  by_length true short b = refl
  by_length false short b = by-type (test b) b

  by_size : (short place n : ℕ) (size : Known)
      → and_then (and_then (declared place n size) (λ b. refuse_if (ltb b.size 8) short (given b))) (λ b. choose (test b) (take b) (given seen))
      ≡ or_passed (and_then (and_then (declared place n size) (λ b. refuse_if (ltb b.size 8) short (given b))) (λ b. choose (test b) (given b) answer.none)) seen take
  by_size short place n none = refl
  by_size short place n (some size) = by_length (ltb (size - n) 8) short (record { place = place; size = size - n })

module _ (s : List ℕ) (t : ℕ) (h : Header) (seen : Taken) where
  pub table-named : (at : Span → TakenTable) → visit_table s t at h seen ≡ or_passed (named_body s t 20 h) seen (take_table at seen)
  unfolding visit_table named_body body_of
  table-named at = by_size (λ b. eqb (grouping_of s b) t) seen _ 20 h.body h.header_length h.size

  pub sgpd-named : visit_sgpd s t h seen ≡ or_passed (named_body s t 30 h) seen (take_sgpd seen)
  unfolding visit_sgpd named_body body_of
  sgpd-named = by_size (λ b. eqb (grouping_of s b) t) seen _ 30 h.body h.header_length h.size

  -- a child by its type
  pub visit-sbgp : h.type ≡ sbgp_type → visit_table s t sbgp_at h seen ≡ visit s t h seen
  unfolding visit
  visit-sbgp e = simp (eq-eqb h.type sbgp_type e)

  pub visit-csgp : h.type ≡ csgp_type → visit_table s t csgp_at h seen ≡ visit s t h seen
  unfolding visit
  visit-csgp e = simp (ne_eqb h.type sbgp_type (λ f. omega arith), eq-eqb h.type csgp_type e)

  pub visit-sgpd : h.type ≡ sgpd_type → visit_sgpd s t h seen ≡ visit s t h seen
  unfolding visit
  visit-sgpd e = simp (ne_eqb h.type sbgp_type (λ f. omega arith), ne_eqb h.type csgp_type (λ f. omega arith), eq-eqb h.type sgpd_type e)

  pub visit-other : (h.type ≡ sbgp_type → ⊥) → (h.type ≡ csgp_type → ⊥) → (h.type ≡ sgpd_type → ⊥) → given seen ≡ visit s t h seen
  unfolding visit
  visit-other e f g = simp (ne_eqb h.type sbgp_type e, ne_eqb h.type csgp_type f, ne_eqb h.type sgpd_type g)

-- the body of a child ends inside its parent
span-ends : (p place n next end : ℕ) (size : Known) → place ≡ p + n → Ends p n size → EndsAt p size next → next ≤ end → SpanEnds end place n size
span-ends p place n next end none e k l m = tt
span-ends p place n next end (some size) e k l m = (k.0, omega arith)

pub child-ends : (s : List ℕ) (p : ℕ) {c : Child} → child_at s p (some (length s)) ≡ given c → EndsInside (length s) c.head
child-ends s p {c} e =
    let o = child-onward s p (length s) e in
    let h = c.head in
    span-ends p h.body h.header_length c.next (length s) h.size o.sound.body o.sound.ends o.ends o.inside

-- 55, else the walk and what follows it
module _ (s : List ℕ) (t : ℕ) where
  pub sources-long : input_limit < length s → refused 55 ≡ sources s t
  unfolding sources
  sources-long h = simp (lt-ltb input_limit (length s) h)

  pub sources-short : length s ≤ input_limit → sources s t ≡ and_then (walk_from s t 0 nothing) found
  unfolding sources
  sources-short h = within-short s _ h
