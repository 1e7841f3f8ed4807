-- The meaning of an index, from the entry that is found for it in a payload that was read whole.
use mathlib.Core.Path.{◌≡◌, refl, ap, sym, ◌∙◌}
use mathlib.Core.List.{List, [], map}
use Prim.Native.Nat.{ℕ, zero, suc, ◌-◌, ◌≤◌, ◌<◌}
use native.Mathlib.Decide.{dec_lt}
use native.Mathlib.Omega.{arith}
use borrow.Author.Tests.{lt-ltb, le-ltb, ne_eqb}
use lib.ListN.{length, get_or, length-map, get_or-map}
use Rattle.base_fields.specs.Answer.{Answer, given, none, refused, and_then}
use Rattle.base_fields.specs.Span.{Span, bytes_at, span_of}
use Rattle.base_fields.specs.declared.Part.{Part}
use Rattle.base_fields.proofs.Answers.{given_inj}
use Rattle.group_entries.specs.Layout.{decode}
use Rattle.group_sgpd.specs.Sgpd.{pick, entry_at}
use Rattle.group_sgpd.specs.Head.{ReadWhole}
use Rattle.group_sgpd.specs.declared.SgpdHead.{SgpdHead}
use Rattle.group_sgpd.proofs.ByNumber.{entry-inside, pick-unrefused}
use Rattle.listing_theorem.specs.Meaning.{outside, missing, value}
use Rattle.listing_theorem.specs.Samples.{meaning_of}
use Rattle.listing_spec.specs.Table.{entries_of}
use Rattle.listing_meanings.specs.Meant.{meaning_in, HasMeaning, GivesMeaning}
use Rattle.listing_meanings.specs.declared.MeaningAt.TheVariants.{Outside, Missing, Entry}

abbrev no_span : Span
no_span = record { place = 0; size = 0 }

none-given : {A : Type 0} {x : A} → ◌≡◌ {A = Answer A} none (given x) → ⊥
none-given e = let z : ◌≡◌ {A = ℕ} 0 1 = cc in omega arith

-- entry j, counted from 0, of those that were read
module _ (es : List Span) (j : ℕ) where
  pub pick-there : j < length es → pick es (suc j) ≡ given (get_or es j no_span)
  pick-there h =
      let z : suc j ≡ 0 → ⊥ = (λ e. omega arith) in
      let l : suc j ≤ length es = omega arith in
      let d : suc j - 1 ≡ j = omega arith in
      simp (ne_eqb _ _ z, le-ltb _ _ l, d)

  pub pick-past : length es ≤ j → pick es (suc j) ≡ none
  pick-past h =
      let z : suc j ≡ 0 → ⊥ = (λ e. omega arith) in
      let l : length es < suc j = omega arith in
      simp (ne_eqb _ _ z, lt-ltb _ _ l)

abbrev pub entry_bytes : List ℕ → List Span → List (List ℕ)
entry_bytes s es = map (λ e. bytes_at s e) es

module _ (t : ℕ) (s : List ℕ) (es : List Span) where
  abbrev bytes : List (List ℕ)
  bytes = entry_bytes s es

  -- an entry that is there is decoded
  pub meaning-found : (i : ℕ) (e : Span) → pick es i ≡ given e → and_then (decode t (bytes_at s e)) (λ v. given (value v)) ≡ meaning_of t bytes i
  unfolding meaning_of
  meaning-found zero e g = absurd (none-given g)
  meaning-found (suc j) e g =
      elim (dec_lt j (length es)) [
        | yes h ↦
            let b : j < length bytes = rw (length-map es (λ x. bytes_at s x)) h in
            let f : get_or es j no_span ≡ e = given_inj (sym (pick-there es j h) ∙ g) in
            let at : get_or bytes j [] ≡ bytes_at s e = get_or-map (λ x. bytes_at s x) es j no_span ∙ ap (λ (x : Span). bytes_at s x) f in
            rw (lt-ltb _ _ b, at) refl
        | no h ↦ absurd (none-given (sym (pick-past es j (omega arith)) ∙ g))
      ]

  -- one that is not is missing
  pub meaning-missing : (i : ℕ) → (i ≡ 0 → ⊥) → pick es i ≡ none → given missing ≡ meaning_of t bytes i
  unfolding meaning_of
  meaning-missing zero z g = absurd (z refl)
  meaning-missing (suc j) z g =
      elim (dec_lt j (length es)) [
        | yes h ↦ absurd (none-given (sym g ∙ pick-there es j h))
        | no h ↦
            let b : length bytes ≤ j = rw (length-map es (λ x. bytes_at s x)) (omega arith) in
            rw (le-ltb _ _ b) refl
      ]

  pub meaning-outside : (i : ℕ) → i ≡ 0 → given outside ≡ meaning_of t bytes i
  unfolding meaning_of
  meaning-outside i e = rw e refl

-- in a payload that was read whole
module _ {s : List ℕ} {h : SgpdHead} (r : ReadWhole s h) (i : ℕ) where
  abbrev es : List Span
  es = r.entries

  -- the bytes of its entries are those that were read
  only : {entries : List (List ℕ)} → entries_of s ≡ given entries → entry_bytes s es ≡ entries
  only g = given_inj (rw r.read at g)

  entry-is : entry_at s i ≡ pick es i
  entry-is = rw r.read refl

  pub gives-outside : i ≡ 0 → GivesMeaning s i Outside
  gives-outside e = record { inside = tt; meant = λ t entries g. meaning-outside t s es i e ∙ ap (λ (l : List (List ℕ)). meaning_of t l i) (only g) }

  pub gives-entry : {p : Part} → entry_at s i ≡ given (span_of p) → GivesMeaning s i (Entry p)
  gives-entry f =
      record {
        inside = entry-inside s i f;
        meant = λ t entries g. meaning-found t s es i _ (sym entry-is ∙ f) ∙ ap (λ (l : List (List ℕ)). meaning_of t l i) (only g);
      }

  pub gives-missing : (i ≡ 0 → ⊥) → entry_at s i ≡ none → GivesMeaning s i Missing
  gives-missing z f =
      record { inside = tt; meant = λ t entries g. meaning-missing t s es i z (sym entry-is ∙ f) ∙ ap (λ (l : List (List ℕ)). meaning_of t l i) (only g) }

  pub unrefused : {n : ℕ} → entry_at s i ≡ refused n → ⊥
  unrefused f = rw (sym entry-is ∙ f) at (pick-unrefused es i)

  -- the entries were read
  pub meaning-is : (t : ℕ) → meaning_in t s i ≡ meaning_of t (entry_bytes s es) i
  meaning-is t = rw r.read refl

  pub has-outside : (t : ℕ) → i ≡ 0 → HasMeaning t s i
  has-outside t e = record { meaning = outside; given = meaning-is t ∙ sym (meaning-outside t s es i e) }

  pub entries-are : entries_of s ≡ given (entry_bytes s es)
  entries-are = rw r.read refl
