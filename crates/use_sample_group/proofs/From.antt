-- The group of a sample by what is opened: refused, not covered, or led to by its index; and the other way.
use mathlib.Core.Path.{◌≡◌, refl, ap, sym}
use mathlib.Core.List.{List, map}
use Prim.Native.Nat.{ℕ, ◌+◌, ◌-◌, ◌≤◌, ◌<◌}
use native.Mathlib.Omega.{arith}
use borrow.Author.Tests.{lt-leb, le-leb, leb-false, ltb-false}
use lib.Dec.{ltb, leb}
use lib.ListN.{length, length-take}
use Rattle.base_fields.specs.Answer.{Answer, given, refused, and_then, input_limit}
use Rattle.base_fields.specs.Span.{Span, span_of, bytes_at}
use Rattle.base_fields.proofs.Answers.{given_inj, given-first, given-past}
use Rattle.atom_path.specs.Path.{stbl_at}
use Rattle.atom_path.proofs.Bodies.{stbl-within}
use Rattle.group_sgpd.specs.Sgpd.{sgpd}
use Rattle.table_rows.specs.Pattern.{covered_by, index_of}
use Rattle.table_needed.specs.Needed.{unlimited}
use Rattle.listing_spec.specs.Walk.{Sources, sources}
use Rattle.listing_spec.specs.Group.{Group, group_taken}
use Rattle.use_sample_group.specs.SampleGroup.{Grouped, entry, part_from, group_from, entry_places, group_of, sample_group, file_sample_group}
use Rattle.use_sample_group.specs.Told.{grouped, StandsBehind}
use Rattle.use_sample_group.specs.declared.SampleGroup.{SampleGroup}
use Rattle.use_sample_group.specs.declared.SampleGroup.TheVariants as group
use Rattle.use_sample_group.proofs.Found.{group_leads, group-moved}
use Rattle.use_sample_group.proofs.Placed.{walk-short, spans-inside, described, place_inside}

module _ (s : List ℕ) (t k : ℕ) where
  pub group-refused : {n : ℕ} → group_taken s t unlimited ≡ refused n → refused n ≡ sample_group s t k
  unfolding sample_group
  group-refused e = rw e refl

  module _ {g : Group} (taken : group_taken s t unlimited ≡ given g) where
    pub not_covered : covered_by g.patterns ≤ k → refused 62 ≡ sample_group s t k
    unfolding sample_group
    not_covered h = rw (taken, le-leb (covered_by g.patterns) k h) refl

    pub group-led : k < covered_by g.patterns → sample_group s t k ≡ given (group_of (entry_places s t) (index_of g.patterns k))
    unfolding sample_group
    group-led h = rw (taken, lt-leb (covered_by g.patterns) k h) refl

  -- a sample whose group is given is covered
  pub record Led (x : Grouped) : Type 0 where
    pub group : Group
    pub taken : group_taken s t unlimited ≡ given group
    pub covered : k < covered_by (group).patterns
    pub told : group_of (entry_places s t) (index_of (group).patterns k) ≡ x

  pub led : {x : Grouped} → sample_group s t k ≡ given x → Led x
  unfolding sample_group
  led e =
      let first = given-first (group_taken s t unlimited) _ e in
      let last = given-past (leb (covered_by first.0.patterns) k) 62 _ first.2 in
      record {
        group = first.0;
        taken = first.1;
        covered = leb-false (covered_by first.0.patterns) k last.0;
        told = given_inj last.1;
      }

  -- an entry stands in the body
  pub group-inside : {i : ℕ} {e : Span} → sample_group s t k ≡ given (entry i e) → e.place + e.size ≤ length s
  group-inside g =
      let x = led g in
      let to = group_leads (entry_places s t) (index_of x.group.patterns k) x.told in
      rw (← to.entry) (place_inside s t unlimited (described s t unlimited x.taken) (index_of x.group.patterns k - 1) to.there)

-- where the payload of the sgpd stands in the body
module _ (s : List ℕ) (t : ℕ) {taken : Sources} (walked : sources s t ≡ given taken) {es : List Span} (read : sgpd (bytes_at s taken.sgpd) ≡ given es) where
  abbrev b : Span
  b = taken.sgpd

  places-are : entry_places s t ≡ map (part_from b.place) es
  unfolding entry_places
  places-are = simp (walked, read)

  -- what is told of an index, moved there
  pub told_moved : {a : Answer Grouped} (i : ℕ) → a ≡ and_then (sgpd (bytes_at s b)) (λ entries. given (group_of entries i))
      → and_then a (λ g. given (group_from b.place g)) ≡ given (group_of (entry_places s t) i)
  told_moved i e = rw (e, read, places-are) (ap given (sym (group-moved b.place es i)))

  -- and moved so it stays within the longest input
  pub told-stands : b.place + b.size ≤ length s → (r : SampleGroup) (i : ℕ) → given (grouped r) ≡ and_then (sgpd (bytes_at s b)) (λ entries. given (group_of entries i))
      → StandsBehind b.place r
  told-stands h group.Outside i e = tt
  told-stands h (group.Missing j) i e = tt
  told-stands h (group.Entry j part) i e =
      let led : group_of es i ≡ entry j.0 (span_of part) = given_inj (sym (rw read at e)) in
      let to = group_leads es i led in
      let inside : part.place + part.size ≤ length (bytes_at s b) = rw (← (ap (λ (x : Span). x.place + x.size) to.entry)) (spans-inside (bytes_at s b) read (i - 1) to.there) in
      let short : length (bytes_at s b) ≤ b.size = simp length-take (omega arith) in
      omega (arith, inside, short, walk-short s t walked)

-- of a film
module _ (s : List ℕ) (n t k : ℕ) where
  pub file_refused : {m : ℕ} → stbl_at s n ≡ refused m → refused m ≡ file_sample_group s n t k
  unfolding file_sample_group
  file_refused e = rw e refl

  film-short : {b : Span} → stbl_at s n ≡ given b → length s ≤ input_limit
  unfolding stbl_at
  film-short e = ltb-false input_limit (length s) (given-past (ltb input_limit (length s)) 55 _ e).0

  module _ {b : Span} (found : stbl_at s n ≡ given b) where
    pub file_moved : {a : Answer Grouped} → a ≡ sample_group (bytes_at s b) t k → and_then a (λ g. given (group_from b.place g)) ≡ file_sample_group s n t k
    unfolding file_sample_group
    file_moved e = rw (e, found) refl

    pub file_stands : (r : SampleGroup) → given (grouped r) ≡ sample_group (bytes_at s b) t k → StandsBehind b.place r
    file_stands group.Outside e = tt
    file_stands (group.Missing j) e = tt
    file_stands (group.Entry j part) e =
        let short : length (bytes_at s b) ≤ b.size = simp length-take (omega arith) in
        omega (arith, group-inside (bytes_at s b) t k (sym e), short, stbl-within s n found, film-short found)
