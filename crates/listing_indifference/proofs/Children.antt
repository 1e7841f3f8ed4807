-- Children stand one behind the other, so a listed bit within a child is listed there.
use mathlib.Core.Path.{◌≡◌, ap, sym, ◌∙◌}
use mathlib.Core.List.{List}
use mathlib.Core.Option.{some}
use Prim.Native.Nat.{ℕ, zero, suc, ◌-◌, ◌*◌, ◌<◌, ◌≤◌}
use native.Mathlib.Decide.{dec_lt}
use native.Mathlib.Omega.{arith}
use lib.ListN.{length}
use Rattle.base_fields.specs.Answer.{Answer, given}
use Rattle.base_fields.proofs.Answers.{given_inj}
use Rattle.atom_tree.specs.Atom.{Child, child_at}
use Rattle.listing_indifference.specs.Body.{Reached, ChildListed, BodyListed}
use Rattle.listing_indifference.proofs.Headers.{child-placed}

module _ (s : List ℕ) where
  abbrev child : ℕ → Answer Child
  child p = child_at s p (some (length s))

  same-child : {p q : ℕ} {c d : Child} → p ≡ q → child p ≡ given c → child q ≡ given d → c ≡ d
  same-child e f g = given_inj (sym f ∙ ap child e ∙ g)

  reached-one : (n : ℕ) {p q : ℕ} → Reached s n p → Reached s n q → p ≡ q
  reached-one zero u v = u ∙ sym v
  reached-one (suc n) u v = u.4 ∙ ap (λ (c : Child). c.next) (same-child (reached-one n u.2 v.2) u.3 v.3) ∙ sym v.4

  reached-order : (m n p q : ℕ) {c : Child} → Reached s m p → child p ≡ given c → Reached s n q → m < n → c.next ≤ q
  reached-order m zero p q u e v l = absurd (omega arith)
  reached-order m (suc n) p q {c} u e v l =
      let w = child-placed s v.0 v.3 in
      elim (dec_lt m n) [
        | yes k ↦ let x = reached-order m n p v.0 u e v.2 k in omega (arith, v.4, w.behind.eight, w.ends)
        | no k ↦
            let same : m ≡ n = omega arith in
            let x : c ≡ v.1 = same-child (reached-one n (rw same at u) v.2) e v.3 in
            let y : c.next ≡ v.1.next = ap (λ (c : Child). c.next) x in
            omega (arith, v.4)
      ]

  reached-child : (m n p q : ℕ) → Reached s m p → Reached s n q → m < n → (c : Child) × (child p ≡ given c)
  reached-child m zero p q u v l = absurd (omega arith)
  reached-child m (suc n) p q u v l =
      elim (dec_lt m n) [
        | yes k ↦ reached-child m n p v.0 u v.2 k
        | no k ↦ let same : m ≡ n = omega arith in (v.1, ap child (reached-one n (rw same at u) v.2) ∙ v.3)
      ]

  module _ (t n p : ℕ) (r : Reached s n p) where
    -- a listed bit between a child's place and its end stands in its body, and is listed there
    pub listed_here : {c : Child} → child p ≡ given c → (i : ℕ) → 8 * p ≤ i → i < 8 * c.next → BodyListed s t i
        → (8 * c.head.body ≤ i) × ChildListed s t c (i - 8 * c.head.body)
    listed_here {c} e i l m z =
        let w = child-placed s z.place z.there in
        elim (dec_lt z.number n) [
          | yes k ↦ let x = reached-order z.number n z.place p z.reached z.there r k in absurd (omega (arith, z.before))
          | no k ↦
              elim (dec_lt n z.number) [
                | yes h ↦ let x = reached-order n z.number p z.place r e z.reached h in absurd (omega (arith, z.from, w.behind.eight))
                | no h ↦
                    let same : z.number ≡ n = omega arith in
                    let x : z.child ≡ c = same-child (reached-one n (rw same at z.reached) r) z.there e in
                    (omega (arith, rw x at z.from), rw x at z.listed)
              ]
        ]

    -- where no child stands, no bit from there on is listed
    pub listed-before : ((c : Child) → child p ≡ given c → ⊥) → (i : ℕ) → 8 * p ≤ i → BodyListed s t i → ⊥
    listed-before none_here i l z =
        elim (dec_lt z.number n) [
          | yes k ↦ let x = reached-order z.number n z.place p z.reached z.there r k in omega (arith, z.before)
          | no k ↦
              elim (dec_lt n z.number) [
                | yes h ↦ let x = reached-child n z.number p z.place r z.reached h in none_here x.0 x.1
                | no h ↦
                    let same : z.number ≡ n = omega arith in
                    none_here z.child (ap child (reached-one n r (rw same at z.reached)) ∙ z.there)
              ]
        ]
