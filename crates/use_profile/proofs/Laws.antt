-- What the contracts are good for: each fixes the answer, which is yes, a rule from 1 to 5, 55, or of a film the search's refusal.
use mathlib.Core.Path.{◌≡◌, refl, ap, sym, ◌∙◌}
use mathlib.Core.Logic.{◌↔◌}
use Prim.Native.Nat.{ℕ, zero, suc, ◌≤◌}
use native.Mathlib.Decide.{dec_lt}
use native.Mathlib.Omega.{arith}
use mathlib.Core.List.{List}
use Rattle.base_fields.specs.Answer as answer
use Rattle.base_fields.specs.Answer.{Answer, given, refused}
use Rattle.base_fields.specs.Span.{Span, bytes_at}
use Rattle.base_fields.proofs.Answers.{refused-given}
use Rattle.base_fields.proofs.Numbered.{Numbered}
use Rattle.atom_path.specs.Path.{stbl_at}
use Rattle.atom_path.proofs.Numbered.{stbl-numbered}
use Rattle.use_profile.specs.Profile.{Listed, StartsInside, ShortGaps, LeadingKnown, NoneMissing, Rule, Verdict, meets, breaks, Judges, GivesVerdict}
use Rattle.use_profile.specs.File.{GivesFound, GivesFileVerdict}

module _ (s : List ℕ) where
  -- yes exactly where all five rules hold
  pub meets_exactly : Judges s meets ↔ (Listed s × StartsInside s × ShortGaps s × LeadingKnown s × NoneMissing s)
  meets_exactly = (λ f. (f 1, f 2, f 3, f 4, f 5), λ r. by r)
    where
      by : Listed s × StartsInside s × ShortGaps s × LeadingKnown s × NoneMissing s → (n : ℕ) → Rule n s
      by r zero = tt
      by r (suc zero) = r.0
      by r (suc (suc zero)) = r.1
      by r (suc (suc (suc zero))) = r.2
      by r (suc (suc (suc (suc zero)))) = r.3
      by r (suc (suc (suc (suc (suc zero))))) = r.4
      by r (suc (suc (suc (suc (suc (suc n)))))) = tt

  -- a rule that is broken is one of the five
  pub rule-number : (n : ℕ) → Judges s (breaks n) → (1 ≤ n) × (n ≤ 5)
  rule-number zero j = absurd (j.0 tt)
  rule-number (suc zero) j = (omega arith, omega arith)
  rule-number (suc (suc zero)) j = (omega arith, omega arith)
  rule-number (suc (suc (suc zero))) j = (omega arith, omega arith)
  rule-number (suc (suc (suc (suc zero)))) j = (omega arith, omega arith)
  rule-number (suc (suc (suc (suc (suc zero))))) j = (omega arith, omega arith)
  rule-number (suc (suc (suc (suc (suc (suc n)))))) j = absurd (j.0 tt)

  one-verdict : (a b : Verdict) → Judges s a → Judges s b → a ≡ b
  one-verdict meets meets f g = refl
  one-verdict meets (breaks n) f g = absurd (g.0 (f n))
  one-verdict (breaks m) meets f g = absurd (f.0 (g m))
  one-verdict (breaks m) (breaks n) f g =
      elim (dec_lt m n) [
        | yes h ↦ absurd (f.0 (g.1 m h))
        | no h ↦
            elim (dec_lt n m) [
              | yes k ↦ absurd (g.0 (f.1 n k))
              | no k ↦ let e : m ≡ n = omega (arith, h, k) in ap {B = Verdict} breaks e
            ]
      ]

  -- two answers of one call are the same
  pub one_answer : (a b : Answer Verdict) → GivesVerdict s a → GivesVerdict s b → a ≡ b
  one_answer (given a) (given b) f g = ap {B = Answer Verdict} given (one-verdict a b f.1 g.1)
  one_answer (given a) (refused n) f g = absurd (omega (arith, f.0, g.0))
  one_answer (refused m) (given b) f g = absurd (omega (arith, f.0, g.0))
  one_answer (refused m) (refused n) f g = ap {B = Answer Verdict} refused (f.1 ∙ sym g.1)
  one_answer answer.none b f g = absurd f
  one_answer (given a) answer.none f g = absurd g
  one_answer (refused m) answer.none f g = absurd g

  -- a status is never mistaken
  pub verdict-numbered : (a : Answer Verdict) → GivesVerdict s a → Numbered a
  verdict-numbered (given v) g = tt
  verdict-numbered answer.none g = tt
  verdict-numbered (refused n) g = (omega (arith, g.1), omega (arith, g.1))

-- the same of a track of a film
module _ (s : List ℕ) where
  one_found : (x : Answer Span) (a b : Answer Verdict) → GivesFound s x a → GivesFound s x b → a ≡ b
  one_found (given p) a b f g = one_answer (bytes_at s p) a b f g
  one_found answer.none a b f g = absurd f
  one_found (refused n) a b f g = f ∙ sym g

  pub one_file_answer : (k : ℕ) (a b : Answer Verdict) → GivesFileVerdict s k a → GivesFileVerdict s k b → a ≡ b
  one_file_answer k a b f g = one_found (stbl_at s k) a b f g

  found-rule : (x : Answer Span) (n : ℕ) → GivesFound s x (given (breaks n)) → (1 ≤ n) × (n ≤ 5)
  found-rule (given p) n g = rule-number (bytes_at s p) n g.1
  found-rule answer.none n g = absurd g
  found-rule (refused m) n g = absurd (refused-given (sym g))

  pub file_rule_number : (k n : ℕ) → GivesFileVerdict s k (given (breaks n)) → (1 ≤ n) × (n ≤ 5)
  file_rule_number k n g = found-rule (stbl_at s k) n g

  found-numbered : (x : Answer Span) → Numbered x → (a : Answer Verdict) → GivesFound s x a → Numbered a
  found-numbered (given p) n a g = verdict-numbered (bytes_at s p) a g
  found-numbered answer.none n a g = absurd g
  found-numbered (refused m) n a g = rw g n

  pub file_numbered : (k : ℕ) (a : Answer Verdict) → GivesFileVerdict s k a → Numbered a
  file_numbered k a g = found-numbered (stbl_at s k) (stbl-numbered s k) a g
