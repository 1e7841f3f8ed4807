-- Where an index leads, by the entries of a payload: the entry that is found for it, and the same where the payload stands at a place of others.
use mathlib.Core.Path.{◌≡◌, refl, ap, sym, ◌∙◌}
use mathlib.Core.List.{List, [], ◌∷◌, map}
use Prim.Native.Nat.{ℕ, zero, suc, ◌-◌, ◌≤◌, ◌<◌}
use native.Mathlib.Decide.{dec_lt}
use native.Mathlib.Omega.{arith}
use borrow.Author.Tests.{lt-ltb, le-ltb}
use lib.ListN.{length, get_or, length-map}
use Rattle.base_fields.specs.Answer.{Answer, given, none, refused, and_then}
use Rattle.base_fields.specs.Span.{Span}
use Rattle.base_fields.proofs.Answers.{given_inj, given-first}
use Rattle.group_sgpd.specs.Sgpd.{sgpd, pick, entry_at}
use Rattle.group_sgpd.proofs.ByNumber.{Settled, sgpd-settled, Unrefused, pick-unrefused}
use Rattle.listing_meanings.proofs.Found.{pick-there, pick-past}
use Rattle.use_sample_group.specs.SampleGroup.{Grouped, outside, missing, entry, group_kind, group_index_of, part_from, group_from, group_of}

abbrev pub no_span : Span
no_span = record { place = 0; size = 0 }

none-given : {A : Type 0} {x : A} → ◌≡◌ {A = Answer A} none (given x) → ⊥
none-given e = let z : ◌≡◌ {A = ℕ} 0 1 = cc in omega arith

module _ (es : List Span) where
  -- entry j, counted from 0
  pub group-there : (j : ℕ) → j < length es → group_of es (suc j) ≡ entry (suc j) (get_or es j no_span)
  unfolding group_of
  group-there j h = rw (lt-ltb j (length es) h) refl

  pub group-past : (j : ℕ) → length es ≤ j → group_of es (suc j) ≡ missing (suc j)
  unfolding group_of
  group-past j h = rw (le-ltb j (length es) h) refl

  -- the entry of index i is there
  group-found : (i : ℕ) {e : Span} → pick es i ≡ given e → group_of es i ≡ entry i e
  group-found zero g = absurd (none-given g)
  group-found (suc j) g =
      elim (dec_lt j (length es)) [
        | yes h ↦ group-there j h ∙ ap (entry (suc j)) (given_inj (sym (pick-there es j h) ∙ g))
        | no h ↦ absurd (none-given (sym (pick-past es j (omega arith)) ∙ g))
      ]

  -- or not
  group-none : (i : ℕ) → (i ≡ 0 → ⊥) → pick es i ≡ none → group_of es i ≡ missing i
  group-none zero z g = absurd (z refl)
  group-none (suc j) z g =
      elim (dec_lt j (length es)) [
        | yes h ↦ absurd (none-given (sym g ∙ pick-there es j h))
        | no h ↦ group-past j (omega arith)
      ]

  group-zero : (i : ℕ) → i ≡ 0 → group_of es i ≡ outside
  unfolding group_of
  group-zero i e = rw e refl

  -- the index is told as it is
  pub group_index : (i : ℕ) → group_index_of (group_of es i) ≡ i
  unfolding group_of
  group_index zero = refl
  group_index (suc j) =
      elim (dec_lt j (length es)) [
        | yes h ↦ rw (lt-ltb j (length es) h) refl
        | no h ↦ (let b : length es ≤ j = omega arith in rw (le-ltb j (length es) b) refl)
      ]

  -- an entry that an index leads to
  pub record Leads (i j : ℕ) (e : Span) : Type 0 where
    pub some : 1 ≤ i
    pub there : i - 1 < length es
    pub index : i ≡ j
    pub entry : get_or es (i - 1) no_span ≡ e

  pub group_leads : (i : ℕ) {j : ℕ} {e : Span} → group_of es i ≡ entry j e → Leads i j e
  unfolding group_of
  group_leads zero g = let z : ◌≡◌ {A = ℕ} 0 2 = ap group_kind g in absurd (omega arith)
  group_leads (suc i) {j} {e} g =
      elim (dec_lt i (length es)) [
        | yes h ↦
            let f : entry (suc i) (get_or es i no_span) ≡ entry j e = sym (group-there i h) ∙ g in
            let d : suc i - 1 ≡ i = omega arith in
            record { some = omega arith; there = omega arith; index = cc; entry = rw d cc }
        | no h ↦ (let f : missing (suc i) ≡ entry j e = sym (group-past i (omega arith)) ∙ g in let z : ◌≡◌ {A = ℕ} 0 1 = cc in absurd (omega arith))
      ]

none_first : {A B : Type 0} (a : Answer A) (f : A → Answer B) → Settled a → and_then a f ≡ none → (x : A) × (a ≡ given x) × (f x ≡ none)
none_first (given x) f s e = (x, refl, e)
none_first none f s e = absurd s
none_first (refused n) f s e = let z : ◌≡◌ {A = ℕ} 0 1 = cc in absurd (omega arith)

unrefused-first : {A B : Type 0} (a : Answer A) (f : A → Answer B) → ((x : A) → Unrefused (f x)) → {n : ℕ} → and_then a f ≡ refused n → a ≡ refused n
unrefused-first (given x) f u e = absurd (rw e at (u x))
unrefused-first none f u e = let z : ◌≡◌ {A = ℕ} 0 1 = cc in absurd (omega arith)
unrefused-first (refused n) f u e = cc

-- by what is told of entry i of a payload
module _ (s : List ℕ) (i : ℕ) where
  abbrev led : Answer Grouped
  led = and_then (sgpd s) (λ es. given (group_of es i))

  pub told-entry : {e : Span} → given e ≡ entry_at s i → given (entry i e) ≡ led
  told-entry g = let x = given-first (sgpd s) (λ es. pick es i) (sym g) in rw (x.1, group-found x.0 i x.2) refl

  pub told-outside : none ≡ entry_at s i → i ≡ 0 → given outside ≡ led
  told-outside g z = let x = none_first (sgpd s) (λ es. pick es i) (sgpd-settled s) (sym g) in rw (x.1, group-zero x.0 i z) refl

  pub told-missing : none ≡ entry_at s i → (i ≡ 0 → ⊥) → given (missing i) ≡ led
  told-missing g z = let x = none_first (sgpd s) (λ es. pick es i) (sgpd-settled s) (sym g) in rw (x.1, group-none x.0 i z x.2) refl

  pub told-refused : {n : ℕ} → refused n ≡ entry_at s i → refused n ≡ led
  told-refused g = rw (unrefused-first (sgpd s) (λ es. pick es i) (λ es. pick-unrefused es i) (sym g)) refl

-- a member of a list that is made member by member
get_d_made : {A B : Type 0} (f : A → B) (l : List A) (j : ℕ) (a : A) (b : B) → j < length l → get_or (map f l) j b ≡ f (get_or l j a)
get_d_made f [] j a b h = absurd (omega arith)
get_d_made f (x ∷ l) zero a b h = refl
get_d_made f (x ∷ l) (suc j) a b h = get_d_made f l j a b (omega arith)

-- the place of each entry is counted from another place
module _ (p : ℕ) (es : List Span) where
  pub place-from : (j : ℕ) → j < length es → get_or (map (part_from p) es) j no_span ≡ part_from p (get_or es j no_span)
  place-from j h = get_d_made (part_from p) es j no_span no_span h

  pub places-long : length (map (part_from p) es) ≡ length es
  places-long = length-map es (part_from p)

  pub group-moved : (i : ℕ) → group_of (map (part_from p) es) i ≡ group_from p (group_of es i)
  unfolding group_of
  group-moved zero = refl
  group-moved (suc j) =
      elim (dec_lt j (length es)) [
        | yes h ↦ rw (places-long, place-from j h, lt-ltb j (length es) h) refl
        | no h ↦ (let b : length es ≤ j = omega arith in rw (places-long, le-ltb j (length es) b) refl)
      ]
