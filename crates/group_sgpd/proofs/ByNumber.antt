-- The answers of a payload: an entry that is found lies within it, only an entry is ever missing, and only the payload is refused.
use mathlib.Core.Path.{◌≡◌}
use mathlib.Core.Bool.{Bool, true, false}
use mathlib.Core.List.{List}
use Prim.Native.Nat.{ℕ, zero, suc, ◌+◌, ◌-◌, ◌/◌, ◌≤◌}
use native.Mathlib.Decide.{dec_lt}
use native.Mathlib.Omega.{arith}
use lib.Dec.{ltb, leb, eqb}
use lib.ListN.{length, get_or}
use Rattle.base_fields.specs.Answer.{Answer, given, none, refused, choose, refuse_if, none_if, and_then, input_limit}
use Rattle.base_fields.specs.Number.{be_at}
use Rattle.base_fields.proofs.Answers.{Holds, holds-given, holds-and_then}
use Rattle.group_sgpd.specs.Sgpd.{version, entry_count_of, span_at, spans, sgpd, pick, entry_at, entry_count_place}
use Rattle.base_fields.specs.Span.{Span}
use Rattle.group_sgpd.specs.Head.{after, lengths_of, whole}
use Rattle.group_sgpd.specs.declared.Lengths.{Lengths}
use Rattle.group_sgpd.specs.declared.Lengths.TheVariants.{Fixed, Prefixed, Shared}
use Rattle.group_sgpd.proofs.Entries.{span_by, span_at-by, span_at-holds, spans-pick, spans-none}
use Rattle.group_sgpd.proofs.Heads.{checks, sgpd-given}

module _ (s : List ℕ) where
  abbrev Inside : Span → Type 0
  Inside e = e.place + e.size ≤ length s

  pick-holds : (n i p : ℕ) → Holds Inside (and_then (spans n s p) (λ es. pick es i))
  pick-holds n i p =
      elim (dec_lt 0 i) [
        | yes a ↦
            elim (dec_lt n i) [
              | yes b ↦ rw (spans-none s n i p (λ h. b)) (holds-and_then Inside (after n s p) (λ q. none) (λ q g. tt))
              | no b ↦
                  rw (spans-pick s n i p a (omega arith))
                  (holds-and_then Inside (after (i - 1) s p) _
                  (λ q g. holds-and_then Inside (after (n - (i - 1)) s q) _ (λ r h. span_at-holds s q)))
            ]
        | no a ↦ rw (spans-none s n i p (λ h. absurd (omega arith))) (holds-and_then Inside (after n s p) (λ q. none) (λ q g. tt))
      ]

  pub entry-inside : (i : ℕ) {e : Span} → entry_at s i ≡ given e → e.place + e.size ≤ length s
  entry-inside i g = holds-given Inside (entry_at s i) (holds-and_then Inside (sgpd s) _ (λ es h. one es h)) g
    where
      one : (es : List Span) → sgpd s ≡ given es → Holds Inside (pick es i)
      one es h = rw (sgpd-given s h) at (pick-holds (entry_count_of s) i (entry_count_place s + 4))

-- an answer other than none
abbrev pub Settled : {A : Type 0} → Answer A → Type 0
Settled (given a) = Unit
Settled none = ⊥
Settled (refused n) = Unit

settled-refuse_if : {A : Type 0} (t : Bool) (n : ℕ) (rest : Answer A) → Settled rest → Settled (refuse_if t n rest)
settled-refuse_if true n rest h = tt
settled-refuse_if false n rest h = h

settled-and_then : {A B : Type 0} (a : Answer A) (f : A → Answer B) → Settled a → ((x : A) → Settled (f x)) → Settled (and_then a f)
settled-and_then (given x) f h g = g x
settled-and_then none f h g = elim h [ ]
settled-and_then (refused n) f h g = tt

whole-settled : (s : List ℕ) (p k : ℕ) → Settled (whole s p k)
whole-settled s p k = settled-refuse_if (ltb (length s) (p + k)) 35 (given (record { place = p; size = k })) tt

span_by-settled : (l : Lengths) (s : List ℕ) (p : ℕ) → Settled (span_by l s p)
span_by-settled (Fixed k) s p = whole-settled s p k
span_by-settled Prefixed s p = settled-refuse_if (ltb (length s) (p + 4)) 33 (whole s (p + 4) (be_at 4 s p)) (whole-settled s (p + 4) (be_at 4 s p))
span_by-settled Shared s p =
    let k = (length s - p) / entry_count_of s in
    settled-refuse_if (eqb k 0) 34 (whole s p k) (whole-settled s p k)

spans-settled : (n : ℕ) (s : List ℕ) (p : ℕ) → Settled (spans n s p)
unfolding spans
spans-settled zero s p = tt
spans-settled (suc n) s p =
    settled-and_then (span_at s p) _ (rw span_at-by (span_by-settled (lengths_of s) s p))
    (λ e. settled-and_then (spans n s (e.place + e.size)) _ (spans-settled n s (e.place + e.size)) (λ es. tt))

settled-checks : {A : Type 0} (a b c d : Bool) (rest : Answer A) → Settled rest → Settled (checks a b c d rest)
settled-checks true b c d rest h = tt
settled-checks false true c d rest h = tt
settled-checks false false true d rest h = tt
settled-checks false false false true rest h = tt
settled-checks false false false false rest h = h

-- the whole payload is read or refused
pub sgpd-settled : (s : List ℕ) → Settled (sgpd s)
unfolding sgpd
sgpd-settled s =
    settled-checks (ltb input_limit (length s)) (ltb (length s) 12) (ltb (length s) (choose (leb 2 (version s)) 16 12)) (ltb (length s) (entry_count_place s + 4))
    (spans (entry_count_of s) s (entry_count_place s + 4)) (spans-settled (entry_count_of s) s (entry_count_place s + 4))

-- an answer other than a refusal
abbrev pub Unrefused : {A : Type 0} → Answer A → Type 0
Unrefused (given a) = Unit
Unrefused none = Unit
Unrefused (refused n) = ⊥

unrefused-none_if : {A : Type 0} (t : Bool) (rest : Answer A) → Unrefused rest → Unrefused (none_if t rest)
unrefused-none_if true rest h = tt
unrefused-none_if false rest h = h

-- an entry of a payload that was read is there or missing
pub pick-unrefused : (es : List Span) (i : ℕ) → Unrefused (pick es i)
pick-unrefused es i =
    let found = given (get_or es (i - 1) (record { place = 0; size = 0 })) in
    unrefused-none_if (eqb i 0) (none_if (ltb (length es) i) found) (unrefused-none_if (ltb (length es) i) found tt)
