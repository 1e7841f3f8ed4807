-- With status 0 the number in `out` tells the verdict: 0 is yes, since no rule has number 0.
use mathlib.Core.Path.{◌≡◌, refl, ap, sym, subst, ◌∙◌}
use mathlib.Core.List.{List, [], ◌∷◌}
use Prim.Native.Nat.{ℕ, zero, suc, ◌≤◌}
use native.Mathlib.Omega.{arith}
use lib.ListN.{length, get_or}
use lib.Seq.{sets}
use Rattle.base_fields.specs.Answer.{Answer, given}
use Rattle.base_fields.proofs.Numbered.{Numbered}
use Rattle.use_profile.specs.Profile.{Verdict, meets, breaks, GivesVerdict}
use Rattle.use_profile.specs.File.{GivesFileVerdict}
use Rattle.use_profile.proofs.Laws.{rule-number, file_rule_number, verdict-numbered, file_numbered}
use Rattle.film_status.specs.Status.{Returns, stored}
use Rattle.film_status.proofs.Told.{status-value}
use Rattle.film_profile.specs.Profile.{verdict_numbers, ReturnsVerdict, ReturnsFileVerdict}

-- the verdict that a number tells
abbrev pub verdict_from : ℕ → Verdict
verdict_from zero = meets
verdict_from (suc n) = breaks (suc n)

first_of : (out : List ℕ) (n : ℕ) → length out ≡ 1 → get_or (sets out 0 (n ∷ [])) 0 0 ≡ n
first_of [] n h = absurd (omega arith)
first_of (x ∷ out) n h = refl

-- G is what a call gives
module _ (G : Answer Verdict → Type 0) (numbered : (a : Answer Verdict) → G a → Numbered a) (rules : (n : ℕ) → G (given (breaks n)) → 1 ≤ n) where
  by_number : (out : List ℕ) → length out ≡ 1 → {out' : List ℕ} (v : Verdict) → G (given v) → out' ≡ sets out 0 (verdict_numbers v)
      → G (given (verdict_from (get_or out' 0 0)))
  by_number out one meets g e = rw (e, first_of out 0 one) g
  by_number out one (breaks zero) g e = absurd (omega (arith, rules 0 g))
  by_number out one (breaks (suc n)) g e = rw (e, first_of out (suc n) one) g

  told-by : {told : Answer Verdict} {out out' : List ℕ} {r : ℕ} → G told → Returns told verdict_numbers out out' r → length out ≡ 1 → r ≡ 0
      → G (given (verdict_from (get_or out' 0 0)))
  told-by {told} {out} g w one e =
      let v = status-value told (numbered told g) (sym w.status ∙ e) in
      by_number out one v.0 (subst G v.1 g) (w.out ∙ ap (λ (a : Answer Verdict). stored verdict_numbers a out) v.1)

pub verdict_c : (s out out' : List ℕ) (r : ℕ) → ReturnsVerdict s out out' r → length out ≡ 1 → r ≡ 0 → GivesVerdict s (given (verdict_from (get_or out' 0 0)))
verdict_c s out out' r x one e = told-by (GivesVerdict s) (verdict-numbered s) (λ n g. (rule-number s n g.1).0) x.gives x.returned one e

pub file_verdict_c : (s : List ℕ) (k : ℕ) (out out' : List ℕ) (r : ℕ) → ReturnsFileVerdict s k out out' r → length out ≡ 1 → r ≡ 0
    → GivesFileVerdict s k (given (verdict_from (get_or out' 0 0)))
file_verdict_c s k out out' r x one e =
    told-by (GivesFileVerdict s k) (file_numbered s k) (λ n g. (file_rule_number s k n g).0) x.gives x.returned one e
