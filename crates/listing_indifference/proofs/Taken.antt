-- What the walk takes are bodies of children of their kind.
use mathlib.Core.Path.{◌≡◌, refl}
use mathlib.Core.Logic.{inl, inr}
use mathlib.Core.List.{List}
use mathlib.Core.Option.{Option, none, some}
use Prim.Native.Nat.{ℕ, zero, suc, ◌+◌, ◌-◌, ◌*◌}
use native.Mathlib.Omega.{arith}
use borrow.Author.Tests.{eqb-true}
use lib.Dec.{ltb, eqb}
use lib.ListN.{length}
use Rattle.base_fields.specs.Answer as answer
use Rattle.base_fields.specs.Answer.{Answer, given, refused, input_limit}
use Rattle.base_fields.proofs.Answers.{Holds, holds-refuse_if, holds-choose, holds-and_then, holds-given}
use Rattle.atom_tree.specs.Atom.{Child, child_at, or_done}
use Rattle.base_fields.specs.Span.{Span, bytes_at}
use Rattle.listing_spec.specs.Walk.{sbgp_type, csgp_type, sgpd_type, TakenTable, sbgp_at, csgp_at, Taken, nothing, Sources, body_of, grouping_of, once, visit_table, visit_sgpd, visit, walk_in, walk_from, found, sources}
use Rattle.listing_indifference.specs.Bits.{Differ}
use Rattle.listing_indifference.specs.Body.{Reached, child_bytes, ChildListed, BodyListed}
use Rattle.listing_indifference.proofs.Differ.{part-differ}
use Rattle.listing_indifference.proofs.Headers.{child-placed}
use Rattle.listing_indifference.proofs.Children.{listed_here}
use Rattle.listing_indifference.proofs.Walk.{Whole, body-of}

-- the body of a reached child of a kind
pub record Of (s : List ℕ) (kind : ℕ) (b : Span) : Type 0 where
  pub number : ℕ
  pub place : ℕ
  pub child : Child
  pub reached : Reached s number place
  pub there : child_at s place (some (length s)) ≡ given child
  pub type : child.head.type ≡ kind
  pub whole : Whole child b

module _ (s : List ℕ) where
  abbrev pub TableOf : TakenTable → Type 0
  TableOf (sbgp_at b) = Of s sbgp_type b
  TableOf (csgp_at b) = Of s csgp_type b

  abbrev TableMay : Option TakenTable → Type 0
  TableMay none = Unit
  TableMay (some k) = TableOf k

  abbrev SgpdMay : Option Span → Type 0
  SgpdMay none = Unit
  SgpdMay (some b) = Of s sgpd_type b

  record AllOf (seen : Taken) : Type 0 where
    table : TableMay seen.table
    sgpd : SgpdMay seen.sgpd

  once-holds : {A B : Type 0} (P : B → Type 0) (a : Option A) (n : ℕ) (rest : Answer B) → Holds P rest → Holds P (once a n rest)
  once-holds P none n rest h = h
  once-holds P (some a) n rest h = tt

  module _ (t n p : ℕ) (r : Reached s n p) (c : Child) (e : child_at s p (some (length s)) ≡ given c) (seen : Taken) (w : AllOf seen) where
    of : {b : Span} (kind short : ℕ) → c.head.type ≡ kind → body_of short c.head ≡ given b → Of s kind b
    of kind short k f = record { number = n; place = p; child = c; reached = r; there = e; type = k; whole = body-of s p short e f }

    table_of : (at : Span → TakenTable) → ((b : Span) → body_of 20 c.head ≡ given b → TableOf (at b)) → Holds AllOf (visit_table s t at c.head seen)
    unfolding visit_table
    table_of at h =
        holds-and_then AllOf (body_of 20 c.head) _ (λ b f.
        holds-choose AllOf (eqb (grouping_of s b) t) _ _
        (λ _. once-holds AllOf seen.table 51 _ (record { table = h b f; sgpd = w.sgpd })) (λ _. w))

    sgpd-of : c.head.type ≡ sgpd_type → Holds AllOf (visit_sgpd s t c.head seen)
    unfolding visit_sgpd
    sgpd-of k =
        holds-and_then AllOf (body_of 30 c.head) _ (λ b f.
        holds-choose AllOf (eqb (grouping_of s b) t) _ _
        (λ _. once-holds AllOf seen.sgpd 53 _ (record { table = w.table; sgpd = of sgpd_type 30 k f })) (λ _. w))

    visit-of : Holds AllOf (visit s t c.head seen)
    unfolding visit
    visit-of =
        holds-choose AllOf (eqb c.head.type sbgp_type) _ _ (λ k. table_of sbgp_at (λ b f. of sbgp_type 20 (eqb-true _ _ k) f)) (λ _.
        holds-choose AllOf (eqb c.head.type csgp_type) _ _ (λ k. table_of csgp_at (λ b f. of csgp_type 20 (eqb-true _ _ k) f)) (λ _.
        holds-choose AllOf (eqb c.head.type sgpd_type) _ _ (λ k. sgpd-of (eqb-true _ _ k)) (λ _. w)))

  followed : (a : Answer Child) (seen : Taken) (follow : Child → Answer Taken) → AllOf seen → ((c : Child) → a ≡ given c → Holds AllOf (follow c))
      → Holds AllOf (or_done a seen follow)
  followed (given c) seen follow w g = g c refl
  followed answer.none seen follow w g = w
  followed (refused n) seen follow w g = tt

  module _ (t : ℕ) where
    walk_of : (m n p : ℕ) (seen : Taken) → Reached s n p → AllOf seen → Holds AllOf (walk_in m s t p seen)
    unfolding walk_in
    walk_of zero n p seen r w = tt
    walk_of (suc m) n p seen r w =
        followed (child_at s p (some (length s))) seen _ w (λ c e.
        holds-and_then AllOf (visit s t c.head seen) _ (λ next f.
        walk_of m (suc n) c.next next (p, c, r, e, refl) (holds-given AllOf _ (visit-of t n p r c e seen w) f)))

    pub record BothOf (taken : Sources) : Type 0 where
      pub table : TableOf taken.table
      pub sgpd : Of s sgpd_type taken.sgpd

    found_of : (table : Option TakenTable) (sgpd : Option Span) → TableMay table → SgpdMay sgpd → Holds BothOf (found (record { table = table; sgpd = sgpd }))
    found_of none sgpd v w = tt
    found_of (some table) none v w = tt
    found_of (some table) (some sgpd) v w = record { table = v; sgpd = w }

    pub sources-of : {taken : Sources} → sources s t ≡ given taken → BothOf taken
    unfolding sources walk_from
    sources-of e =
        holds-given BothOf _ (holds-refuse_if BothOf (ltb input_limit (length s)) 55 _ (λ _.
        holds-and_then BothOf (walk_in (suc (length s - 0)) s t 0 nothing) _ (λ seen f.
        let w = holds-given AllOf _ (walk_of (suc (length s - 0)) 0 0 nothing refl (record { table = tt; sgpd = tt })) f in
        found_of seen.table seen.sgpd w.table w.sgpd))) e

-- a payload is the child's body, and its bits are listed as the child's are
module _ (t : ℕ) (s s' : List ℕ) (d : Differ (BodyListed s t) s s') (kind : ℕ) (b : Span) (o : Of s kind b) where
  pub payload-child : child_bytes s o.child ≡ bytes_at s b
  payload-child =
      let n : o.child.next - o.child.head.body ≡ b.size = omega (arith, o.whole.place, o.whole.size) in
      rw (n, ← o.whole.place)

  pub payload-differ : (P : ℕ → Type 0) → ((j : ℕ) → ChildListed s t o.child j → P j) → Differ P (bytes_at s b) (bytes_at s' b)
  payload-differ P f =
      let c = o.child in
      let w = child-placed s o.place o.there in
      part-differ P s s' b.place b.size d.first d.second d.long (λ j l. elim (d.bits (8 * b.place + j)) [
        | inl e ↦ inl e
        | inr z ↦
            let x = listed_here s t o.number o.place o.reached o.there (8 * b.place + j)
            (omega (arith, w.behind.eight, o.whole.place)) (omega (arith, o.whole.size)) z in
            let e : 8 * b.place + j - 8 * c.head.body ≡ j = omega (arith, o.whole.place) in
            inr (f j (rw e at x.1))
      ])
