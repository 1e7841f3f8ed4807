-- What the contract is good for: it fixes the answer, and 29 is never one.
use mathlib.Core.Path.{◌≡◌, refl, ap, sym, subst, ◌∙◌}
use mathlib.Core.List.{List, [], ◌∷◌}
use mathlib.Core.Option.{Option, some-injective, none-ne-some}
use Prim.Native.Nat.{ℕ, suc}
use borrow.Author.Rules.{rules}
use lib.Dec.{leb}
use lib.ListN.{take}
use Rattle.base_fields.specs.Answer as answers
use Rattle.base_fields.specs.Answer.{Answer, given, refused, and_then}
use Rattle.base_fields.proofs.Answers.{given_inj, refused-given}
use Rattle.base_fields.proofs.Numbered.{by-refuse_if, by-and_then}
use Rattle.base_fields.proofs.Firm.{Other, Firm, firm-never_29}
use Rattle.table_rows.specs.Pattern.{samples_of, covered_by}
use Rattle.table_needed.specs.Needed.{unlimited}
use Rattle.table_views.specs.Used.{first_refusal}
use Rattle.table_views.specs.Greatest.{Greatest}
use Rattle.table_views.proofs.Greatest.{greatest-one}
use Rattle.listing_theorem.specs.Meaning.{Meaning}
use Rattle.listing_theorem.specs.Samples.{meaning_of, meanings}
use Rattle.listing_spec.specs.Group.{Group, group_taken}
use Rattle.listing_spec.proofs.FirmParts.{meanings-firm}
use Rattle.listing_group.proofs.Enough.{enough-firm}
use Rattle.use_decode_start.specs.Start.{searched_to, BeginsIn, Starts, GivesStart}

-- two answers of one call are the same
module _ (s : List ℕ) (t wanted : ℕ) where
  starts-one : {o p : Option ℕ} → Starts s t wanted o → Starts s t wanted p → o ≡ p
  starts-one {o} {p} f g =
      let same : g.group ≡ f.group = given_inj (sym g.told ∙ f.told) in
      greatest-one (BeginsIn t wanted f.group) o p f.greatest (subst (λ (x : Group). Greatest (BeginsIn t wanted x) p) same g.greatest)

  starts-given : {n : ℕ} {o : Option ℕ} → Starts s t wanted o → searched_to s t wanted ≡ refused n → ⊥
  starts-given f e = refused-given (sym e ∙ f.told)

  pub one_answer : (a b : Answer ℕ) → GivesStart s t wanted a → GivesStart s t wanted b → a ≡ b
  one_answer (given a) (given b) f g = let e : a ≡ b = some-injective a b (starts-one f g) in ap {B = Answer ℕ} given e
  one_answer (given a) answers.none f g = absurd (none-ne-some a (starts-one g f))
  one_answer (given a) (refused n) f g = absurd (starts-given f g)
  one_answer answers.none (given b) f g = absurd (none-ne-some b (starts-one f g))
  one_answer answers.none answers.none f g = refl
  one_answer answers.none (refused n) f g = absurd (starts-given f g)
  one_answer (refused m) (given b) f g = absurd (starts-given g f)
  one_answer (refused m) answers.none f g = absurd (starts-given g f)
  one_answer (refused m) (refused n) f g = let e : ◌≡◌ {A = Answer Group} (refused m) (refused n) = sym f ∙ g in let z : m ≡ n = cc in ap {B = Answer ℕ} refused z

-- no decoder's refusal is 29
module _ (t : ℕ) (entries : List (List ℕ)) where
  meaning-firm : (i : ℕ) → Firm (meaning_of t entries i)
  unfolding meanings
  meaning-firm i = by (meaning_of t entries i) (meanings-firm t entries (i ∷ []))
    where
      by : (a : Answer Meaning) → Firm (and_then a (λ m. given (m ∷ []))) → Firm a
      by (given m) f = tt
      by answers.none f = f
      by (refused n) f = f

  refusal-firm : (l : List ℕ) → Firm (first_refusal (meaning_of t entries) l)
  unfolding first_refusal
  refusal-firm [] = tt
  refusal-firm (i ∷ l) = by-and_then Other ⊥ (meaning_of t entries i) _ (meaning-firm i) (λ m e. refusal-firm l)

pub searched-firm : (s : List ℕ) (t wanted : ℕ) → Firm (searched_to s t wanted)
unfolding searched_to
searched-firm s t wanted =
    by-and_then Other ⊥ (group_taken s t unlimited) _ (enough-firm s t) (λ g e.
    let up_to = take (suc wanted) (samples_of g.patterns) in
    by-refuse_if Other ⊥ (leb (covered_by g.patterns) wanted) 62 _ (search rules)
    (by-and_then Other ⊥ (first_refusal (meaning_of t g.entries) up_to) _ (refusal-firm t g.entries up_to) (λ u j. tt)))

pub never_29 : (s : List ℕ) (t wanted : ℕ) → GivesStart s t wanted (refused 29) → ⊥
never_29 s t wanted e = firm-never_29 (searched_to s t wanted) (searched-firm s t wanted) e
