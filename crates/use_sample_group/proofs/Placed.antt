-- The taken sgpd of a group: where it stands in the body, its entries, and their bytes.
use mathlib.Core.Path.{◌≡◌, ap, sym, ◌∙◌}
use mathlib.Core.List.{List, [], map}
use Prim.Native.Nat.{ℕ, suc, ◌+◌, ◌≤◌, ◌<◌}
use native.Mathlib.Nat.{add_assoc}
use native.Mathlib.Omega.{arith}
use borrow.Author.Tests.{ltb-false}
use lib.Dec.{ltb}
use lib.ListN.{length, get_or, drop, length-map, length-take, length-drop, get_or-map}
use lib.Seq.{ext_get_or, get_or-take, get_or-drop}
use Rattle.base_fields.specs.Answer.{given, input_limit}
use Rattle.base_fields.specs.Span.{Span, bytes_at}
use Rattle.base_fields.proofs.Answers.{given_inj, given-first, given-past}
use Rattle.group_sgpd.specs.Sgpd as descriptions
use Rattle.group_sgpd.proofs.ByNumber.{entry-inside}
use Rattle.listing_meanings.proofs.Found.{pick-there}
use Rattle.listing_spec.specs.Walk.{Sources, sources}
use Rattle.listing_spec.specs.Table.{entries_taken}
use Rattle.listing_spec.specs.Group.{Group, group_taken}
use Rattle.listing_spec.proofs.Inside.{payload-length, sources_stand}
use Rattle.listing_spec.proofs.Group.{opened}
use Rattle.use_sample_group.specs.SampleGroup.{part_from, entry_places}
use Rattle.use_sample_group.proofs.Found.{no_span, place-from, places-long}

-- a part of a part
pub part-of-part : (s : List ℕ) (b e : Span) → e.place + e.size ≤ b.size → bytes_at (bytes_at s b) e ≡ bytes_at s (part_from b.place e)
part-of-part s b e h =
    let long : length (bytes_at (bytes_at s b) e) ≡ length (bytes_at s (part_from b.place e)) = simp (length-take, length-drop) (omega arith) in
    ext_get_or 0 (bytes_at (bytes_at s b) e) (bytes_at s (part_from b.place e)) long (λ k l.
    let short : length (bytes_at (bytes_at s b) e) ≤ e.size = simp length-take (omega arith) in
    let m : k < e.size = omega arith in
    let n : e.place + k < b.size = omega arith in
    get_or-take e.size (drop e.place (bytes_at s b)) k 0 m ∙ get_or-drop e.place (bytes_at s b) k 0
    ∙ get_or-take b.size (drop b.place s) (e.place + k) 0 n ∙ get_or-drop b.place s (e.place + k) 0
    ∙ ap (λ (i : ℕ). get_or s i 0) (sym (add_assoc b.place e.place k))
    ∙ sym (get_or-take e.size (drop (b.place + e.place) s) k 0 m ∙ get_or-drop (b.place + e.place) s k 0))

-- entry j of a payload, counted from 0, lies within it
pub spans-inside : (s : List ℕ) {es : List Span} → descriptions.sgpd s ≡ given es → (j : ℕ) → j < length es → (get_or es j no_span).place + (get_or es j no_span).size ≤ length s
spans-inside s {es} read j h = entry-inside s (suc j) (rw read (pick-there es j h))

-- a walk that gives something was made in a body that is not too long
pub walk-short : (s : List ℕ) (t : ℕ) {taken : Sources} → sources s t ≡ given taken → length s ≤ input_limit
unfolding sources
walk-short s t e = ltb-false input_limit (length s) (given-past (ltb input_limit (length s)) 55 _ e).0

module _ (s : List ℕ) (t room : ℕ) where
  -- the sgpd of a group, and where its entries stand
  pub record Described (g : Group) : Type 0 where
    pub taken : Sources
    pub walked : sources s t ≡ given taken
    pub spans : List Span
    pub read : descriptions.sgpd (bytes_at s taken.sgpd) ≡ given spans
    pub short : length s ≤ input_limit
    pub inside : taken.sgpd.place + taken.sgpd.size ≤ length s
    pub payload : length (bytes_at s taken.sgpd) ≡ taken.sgpd.size
    pub places : entry_places s t ≡ map (part_from taken.sgpd.place) spans
    pub entries : g.entries ≡ map (λ e. bytes_at (bytes_at s taken.sgpd) e) spans

  pub described : {g : Group} → group_taken s t room ≡ given g → Described g
  unfolding entries_taken entry_places
  described e =
      let o = opened s t room e in
      let stands = (sources_stand s t o.walked).sgpd in
      let read = given-first (descriptions.sgpd (bytes_at s o.taken.sgpd)) _ o.described in
      record {
        taken = o.taken;
        walked = o.walked;
        spans = read.0;
        read = read.1;
        short = walk-short s t o.walked;
        inside = stands.inside;
        payload = payload-length s t stands;
        places = simp (o.walked, read.1);
        entries = sym (given_inj read.2);
      }

  -- entry j, counted from 0
  module _ {g : Group} (d : Described g) where
    abbrev here : Span
    here = d.taken.sgpd

    pub places-many : length (entry_places s t) ≡ length d.spans
    places-many = ap (λ (l : List Span). length l) d.places ∙ places-long here.place d.spans

    pub entries-many : length g.entries ≡ length (entry_places s t)
    entries-many = ap (λ (l : List (List ℕ)). length l) d.entries ∙ length-map d.spans (λ e. bytes_at (bytes_at s here) e) ∙ sym places-many

    module _ (j : ℕ) (h : j < length (entry_places s t)) where
      there : j < length d.spans
      there = omega (arith, places-many)

      abbrev span : Span
      span = get_or d.spans j no_span

      within : span.place + span.size ≤ here.size
      within = omega (arith, spans-inside (bytes_at s here) d.read j there, d.payload)

      at : get_or (entry_places s t) j no_span ≡ part_from here.place span
      at = ap (λ (l : List Span). get_or l j no_span) d.places ∙ place-from here.place d.spans j there

      -- stands in the body
      pub place_inside : (get_or (entry_places s t) j no_span).place + (get_or (entry_places s t) j no_span).size ≤ length s
      place_inside = rw at (omega (arith, within, d.inside))

      -- with its bytes
      pub place-bytes : bytes_at s (get_or (entry_places s t) j no_span) ≡ get_or g.entries j []
      place-bytes =
          ap (bytes_at s) at ∙ sym (part-of-part s here span within)
          ∙ sym (get_or-map (λ e. bytes_at (bytes_at s here) e) d.spans j no_span) ∙ ap (λ (l : List (List ℕ)). get_or l j []) (sym d.entries)
