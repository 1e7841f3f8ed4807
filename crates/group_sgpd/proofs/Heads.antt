-- The fixed fields: how each version's are read, and that what stands behind them is reached exactly where they are there.
use mathlib.Core.Path.{◌≡◌, refl, ap, sym, ◌∙◌}
use mathlib.Core.Bool.{Bool, true, false}
use mathlib.Core.List.{List}
use Prim.Native.Nat.{ℕ, ◌+◌, ◌≤◌, ◌<◌}
use native.Mathlib.Omega.{arith}
use borrow.Author.Tests.{lt-ltb, le-ltb, le-leb, ltb-false, ne_eqb}
use lib.Dec.{ltb, leb}
use lib.ListN.{length}
use Rattle.std.specs.Prelude.{Result, Err}
use Rattle.std.specs.Result.{IsErr, IsErrAnd}
use Rattle.std.proofs.lemmas.Result.{err_from_is_err_and}
use Rattle.base_fields.specs.declared.refusal.Refusal.{Refusal}
use Rattle.base_fields.specs.Answer.{Answer, given, refused, choose, refuse_if, input_limit}
use Rattle.base_fields.specs.Number.{be_at}
use Rattle.base_fields.proofs.Answers.{Holds, holds-refuse_if, holds-given}
use Rattle.group_sgpd.specs.Sgpd.{version, entry_count_of, spans, headed, sgpd, entry_count_place}
use Rattle.base_fields.specs.Span.{Span}
use Rattle.group_sgpd.specs.Head.{head_of, head_at, lengths_by, HeadOf, Among, entry_count_at}
use Rattle.group_sgpd.specs.declared.Lengths.{Lengths}
use Rattle.group_sgpd.specs.declared.SgpdHead.{SgpdHead}

-- what an exit by `?` hands on
pub handed : {A : Type 0} {e : Refusal} {r : Result A Refusal} → IsErr r × IsErrAnd r (λ n. n ≡ e) → r ≡ Err e
handed {r = r} h = let x = err_from_is_err_and r h.1 in x.1 ∙ ap Err x.2

module _ (s : List ℕ) (short : length s ≤ input_limit) (long : 12 ≤ length s) where
  pub head_0 : version s ≡ 0 → head_at s ≡ entry_count_at s (version s) 0 0 8
  head_0 e = simp (le-ltb _ _ short, le-ltb _ _ long, e)

  pub head_1 : version s ≡ 1 → head_at s ≡ entry_count_at s (version s) (be_at 4 s 8) 0 12
  head_1 e = simp (le-ltb _ _ short, le-ltb _ _ long, e)

  module _ (later : 2 ≤ version s) where
    some : 1 ≤ version s
    some = omega arith

    not_0 : version s ≡ 0 → ⊥
    not_0 e = omega arith

    not_1 : version s ≡ 1 → ⊥
    not_1 e = omega arith

    pub head_2 : 16 ≤ length s → head_at s ≡ entry_count_at s (version s) (be_at 4 s 8) (be_at 4 s 12) 16
    head_2 h = simp (le-ltb _ _ short, le-ltb _ _ long, le-leb _ _ later, le-leb _ _ some, ne_eqb _ _ not_0, ne_eqb _ _ not_1, le-ltb _ _ h)

    pub head_31 : length s < 16 → head_at s ≡ refused 31
    head_31 h = simp (le-ltb _ _ short, le-ltb _ _ long, le-leb _ _ later, lt-ltb _ _ h)

never : {A : Type 0} {B : Type 0} {n : ℕ} {x : A} → refused n ≡ given x → B
never e = absurd (let z : ◌≡◌ {A = ℕ} 0 1 = cc in omega arith)

-- four checks in a row
abbrev pub checks : {A : Type 0} → Bool → Bool → Bool → Bool → Answer A → Answer A
checks a b c d rest = refuse_if a 55 (refuse_if b 30 (refuse_if c 31 (refuse_if d 32 rest)))

passed : {A B : Type 0} (a b c d : Bool) (x : Answer A) {y : A} → checks a b c d x ≡ given y → (rest : Answer B) → checks a b c d rest ≡ rest
passed true b c d x e rest = never e
passed false true c d x e rest = never e
passed false false true d x e rest = never e
passed false false false true x e rest = never e
passed false false false false x e rest = refl

failed : {A B : Type 0} (a b c d : Bool) (x : A) {n : ℕ} → checks a b c d (given x) ≡ refused n → (rest : Answer B) → checks a b c d rest ≡ refused n
failed true b c d x e rest = cc
failed false true c d x e rest = cc
failed false false true d x e rest = cc
failed false false false true x e rest = cc
failed false false false false x e rest = never (sym e)

module _ (s : List ℕ) where
  abbrev over : Bool
  over = ltb input_limit (length s)

  abbrev under_12 : Bool
  under_12 = ltb (length s) 12

  abbrev no_index : Bool
  no_index = ltb (length s) (choose (leb 2 (version s)) 16 12)

  abbrev no_count : Bool
  no_count = ltb (length s) (entry_count_place s + 4)

  -- where something behind the fixed fields is given, they are there
  pub head-rest : {A B : Type 0} (x : Answer A) {y : A} → headed s x ≡ given y → (rest : Answer B) → headed s rest ≡ rest
  head-rest x e rest = passed over under_12 no_index no_count x e rest

  pub head-refused : {B : Type 0} {n : ℕ} → head_at s ≡ refused n → (rest : Answer B) → headed s rest ≡ refused n
  head-refused e rest = failed over under_12 no_index no_count (head_of s) e rest

  pub head-same : {h : SgpdHead} → head_at s ≡ given h → h ≡ head_of s
  head-same {h} e = let f : given h ≡ given (head_of s) = sym e ∙ head-rest (given (head_of s)) e (given (head_of s)) in cc

  abbrev Sized : SgpdHead → Type 0
  Sized h = (length s ≤ input_limit) × (h.first ≤ length s)

  sized : Holds Sized (head_at s)
  sized =
      holds-refuse_if Sized over 55 _
      (λ a. holds-refuse_if Sized under_12 30 _
      (λ b. holds-refuse_if Sized no_index 31 _
      (λ c. holds-refuse_if Sized no_count 32 (given (head_of s)) (λ d. (ltb-false _ _ a, ltb-false _ _ d)))))

  pub head_of_lem : {h : SgpdHead} → head_at s ≡ given h → HeadOf s h
  head_of_lem e = let f = holds-given Sized (head_at s) sized e in record { read = e; short = f.0; inside = f.1 }

  abbrev entries : Answer (List Span)
  entries = spans (entry_count_of s) s (entry_count_place s + 4)

  -- the entries behind the fixed fields
  pub sgpd-spans : {h : SgpdHead} → head_at s ≡ given h → sgpd s ≡ entries
  unfolding sgpd
  sgpd-spans e = head-rest (given (head_of s)) e entries

  pub sgpd-refused : {n : ℕ} → head_at s ≡ refused n → sgpd s ≡ refused n
  unfolding sgpd
  sgpd-refused e = head-refused e entries

  pub sgpd-given : {es : List Span} → sgpd s ≡ given es → entries ≡ given es
  unfolding sgpd
  sgpd-given e = sym (head-rest entries e entries) ∙ e

  pub sgpd-head : {es : List Span} → sgpd s ≡ given es → head_at s ≡ given (head_of s)
  unfolding sgpd
  sgpd-head e = head-rest entries e (given (head_of s))

-- the fields of a head that was read
module _ {s : List ℕ} {h : SgpdHead} (o : HeadOf s h) where
  same : h ≡ head_of s
  same = head-same s o.read

  pub first-is : h.first ≡ entry_count_place s + 4
  first-is = ap (λ (x : SgpdHead). x.first) same

  pub count-is : h.entry_count ≡ entry_count_of s
  count-is = ap (λ (x : SgpdHead). x.entry_count) same

  pub among : {l : Lengths} {p : ℕ} → l ≡ lengths_by h.version h.grouping_type h.default_length → p ≤ length s → Among s l h.entry_count p
  among e b =
      record {
        lengths = e ∙ ap (λ (x : SgpdHead). lengths_by x.version x.grouping_type x.default_length) same;
        count = count-is;
        short = o.short;
        inside = b;
      }
