-- Whether two meanings are the same.
use mathlib.Core.Path.{◌≡◌, refl, ap, sym, ◌∙◌}
use mathlib.Core.Bool.{Bool, true, false}
use mathlib.Core.List.{List}
use Prim.Native.Nat.{ℕ, ◌≤◌}
use native.Mathlib.Omega.{arith}
use lib.ListN.{length, length-take, length-drop}
use Rattle.base_fields.specs.Answer.{Answer, given, refused, and_then, input_limit}
use Rattle.base_fields.specs.Span.{Span, bytes_at, span_of}
use Rattle.base_fields.specs.declared.Part.{Part}
use Rattle.base_fields.proofs.Answers.{given_inj, refused-given, given-first, within-short, and_then_assoc}
use Rattle.group_entries.specs.Decoded.{Decoded}
use Rattle.group_entries.specs.Layout.{layout_of, decode_as, decode}
use Rattle.group_entries.specs.Same.{same_decoded, is_same}
use Rattle.group_entries.proofs.Same.{true-told, false-told}
use Rattle.group_alike.specs.Front.{front_size}
use Rattle.group_alike.specs.Alike.{alike}
use Rattle.listing_theorem.specs.Meaning.{outside, missing, value}
use Rattle.listing_meanings.specs.Meant.{meant_at, Means, GivesLike, entry_meaning}
use Rattle.listing_meanings.specs.declared.MeaningAt.{MeaningAt}

-- a part is no longer than the whole
pub part-short : (s : List ℕ) (e : Span) → length s ≤ input_limit → length (bytes_at s e) ≤ input_limit
part-short s e h = simp (length-take, length-drop) (omega arith)

-- a front is told where the entry decodes, with the same refusals
pub front-passes : (t : ℕ) (b : List ℕ) {x : Answer ℕ} → x ≡ and_then (decode_as (layout_of t) b) (λ v. given (front_size (layout_of t) b))
    → ◌≡◌ {A = Answer Unit} (and_then x (λ n. given tt)) (and_then (and_then (decode t b) (λ v. given (value v))) (λ m. given tt))
unfolding decode
front-passes t b e =
    ap (λ (x : Answer ℕ). and_then {B = Unit} x (λ n. given tt)) e ∙ and_then_assoc (decode_as (layout_of t) b) _ _ ∙ sym (and_then_assoc (decode_as (layout_of t) b) _ _)

module _ (t : ℕ) (s : List ℕ) (a b : MeaningAt) where
  pub are-like : meant_at t s a ≡ meant_at t s b → GivesLike t s a b true
  are-like e = record { same = λ r. e; different = λ r. absurd (let z : ◌≡◌ {A = ℕ} 0 1 = cc in omega arith) }

  pub not-like : (meant_at t s a ≡ meant_at t s b → ⊥) → GivesLike t s a b false
  not-like h = record { same = λ r. absurd (let z : ◌≡◌ {A = ℕ} 0 1 = cc in omega arith); different = λ r. h }

pub outside-missing : outside ≡ missing → ⊥
outside-missing e = let z : ◌≡◌ {A = ℕ} 0 1 = cc in omega arith

-- an entry that decodes
module _ (t : ℕ) (s : List ℕ) {p : Part} (m : Means t s (entry_meaning p)) where
  abbrev entry : List ℕ
  entry = bytes_at s (span_of p)

  abbrev first : (v : Decoded) × (decode t entry ≡ given v) × (given (value v) ≡ given m.meaning)
  first = given-first (decode t entry) (λ v. given (value v)) m.given

  abbrev pub decoded : Decoded
  decoded = first.0

  pub decodes : decode t entry ≡ given decoded
  decodes = first.1

  pub valued : meant_at t s (entry_meaning p) ≡ given (value decoded)
  valued = m.given ∙ sym first.2

  pub entry-outside : meant_at t s (entry_meaning p) ≡ given outside → ⊥
  entry-outside e = let f : value decoded ≡ outside = given_inj (sym valued ∙ e) in let z : ◌≡◌ {A = ℕ} 0 1 = cc in omega arith

  pub entry-missing : meant_at t s (entry_meaning p) ≡ given missing → ⊥
  entry-missing e = let f : value decoded ≡ missing = given_inj (sym valued ∙ e) in let z : ◌≡◌ {A = ℕ} 0 1 = cc in omega arith

-- two entries that decode
module _ (t : ℕ) (s : List ℕ) {p q : Part} (short : length s ≤ input_limit) (a : Means t s (entry_meaning p)) (b : Means t s (entry_meaning q)) where
  told : alike t (entry t s a) (entry t s b) ≡ given (is_same (same_decoded (decoded t s a) (decoded t s b)))
  unfolding alike
  told =
      within-short (entry t s a) _ (part-short s (span_of p) short)
      ∙ within-short (entry t s b) _ (part-short s (span_of q) short) ∙ rw (decodes t s a, decodes t s b) refl

  pub told_same : given true ≡ alike t (entry t s a) (entry t s b) → meant_at t s (entry_meaning p) ≡ meant_at t s (entry_meaning q)
  told_same e =
      let v = true-told (same_decoded (decoded t s a) (decoded t s b)) (sym (given_inj (e ∙ told))) in
      valued t s a ∙ ap (λ (x : Decoded). given (value x)) v ∙ sym (valued t s b)

  pub told-different : given false ≡ alike t (entry t s a) (entry t s b) → meant_at t s (entry_meaning p) ≡ meant_at t s (entry_meaning q) → ⊥
  told-different e m =
      let f : value (decoded t s a) ≡ value (decoded t s b) = given_inj (sym (valued t s a) ∙ m ∙ valued t s b) in
      false-told (same_decoded (decoded t s a) (decoded t s b)) (sym (given_inj (e ∙ told))) (cc)

  pub told-like : (r : Bool) → given r ≡ alike t (entry t s a) (entry t s b) → GivesLike t s (entry_meaning p) (entry_meaning q) r
  told-like true e = are-like t s _ _ (told_same e)
  told-like false e = not-like t s _ _ (told-different e)

  -- no decoder refuses one
  pub never-refused : {m : ℕ} → refused m ≡ alike t (entry t s a) (entry t s b) → ⊥
  never-refused e = refused-given (e ∙ told)
