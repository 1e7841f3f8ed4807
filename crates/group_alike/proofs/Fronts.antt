-- The front of an entry, from its decoder's answer.
use mathlib.Core.Path.{◌≡◌, refl, ap, sym, ◌∙◌}
use mathlib.Core.Bool.{Bool}
use mathlib.Core.List.{List}
use Prim.Native.Nat.{ℕ, ◌<◌, ◌≤◌}
use native.Mathlib.Nat.{le_refl}
use lib.IntN.{ℤ}
use lib.ListN.{length}
use Rattle.std.specs.Prelude.{Result}
use Rattle.base_fields.specs.declared.refusal.Refusal.{Refusal}
use borrow.Author.Tests.{lt-ltb, le-ltb}
use Rattle.base_fields.specs.Answer.{Answer, given, refused, and_then, within, input_limit}
use Rattle.base_fields.proofs.Answers.{given_inj, given-first, within-short, and_then_assoc}
use Rattle.group_entries.specs.Decoded.{Decoded, Rap as RapFields, Sap as SapFields, Rash as RashFields, Alst as AlstFields, roll_of, rap_of, tele_of, sap_of, rash_of, alst_of, raw_of, decode_roll, decode_rap, decode_tele, decode_sap, decode_rash, decode_alst, point_at, offset_at, pair_at, up_to}
use Rattle.group_entries.specs.Layout.{decode_as}
use Rattle.group_entries.specs.Told.{told_roll, told_rap, told_tele, told_sap, told_rash, told_alst}
use Rattle.group_entries.specs.declared.RollRecovery.{RollRecovery}
use Rattle.group_entries.specs.declared.VisualRandomAccess.{VisualRandomAccess}
use Rattle.group_entries.specs.declared.TemporalLevel.{TemporalLevel}
use Rattle.group_entries.specs.declared.StreamAccessPoint.{StreamAccessPoint}
use Rattle.group_entries.specs.declared.RateShare.{RateShare}
use Rattle.group_entries.specs.declared.AlternativeStartup.{AlternativeStartup}
use Rattle.group_entries.specs.declared.EntryLayout.{EntryLayout}
use Rattle.group_entries.specs.declared.EntryLayout.TheVariants.{Roll, Rap, Tele, Sap, Rash, Alst, Raw}
use Rattle.group_entries.proofs.Values.{value_of, Sized, valued}
use Rattle.group_alike.specs.Front.{FrontIs, front_size, Short}

-- the decoder of a layout: what the code returns, what that tells, and how the value is made of it
pub record Decoder : Type 1 where
  pub Returned : Type 0
  pub Value : Type 0
  pub told : Returned → Answer Value
  pub decoded : List ℕ → Answer Value
  pub make : List ℕ → Value → Decoded

abbrev pub decoder_of : EntryLayout → Decoder
decoder_of Roll = record { Returned = Result RollRecovery Refusal; Value = ℤ; told = told_roll; decoded = decode_roll; make = λ s. roll_of }
decoder_of Rap = record { Returned = Result VisualRandomAccess Refusal; Value = RapFields; told = told_rap; decoded = decode_rap; make = λ s. rap_of }
decoder_of Tele = record { Returned = Result TemporalLevel Refusal; Value = Bool; told = told_tele; decoded = decode_tele; make = λ s. tele_of }
decoder_of Sap = record { Returned = Result StreamAccessPoint Refusal; Value = SapFields; told = told_sap; decoded = decode_sap; make = λ s. sap_of }
decoder_of Rash =
    record { Returned = Result RateShare Refusal; Value = RashFields; told = told_rash; decoded = decode_rash; make = λ s r. rash_of r (up_to (point_at s) 0 r.points) }
decoder_of Alst =
    record { Returned = Result AlternativeStartup Refusal; Value = AlstFields; told = told_alst; decoded = decode_alst; make = λ s a. alst_of a (up_to (offset_at s) 0 a.roll_count_of) (up_to (pair_at s) 0 a.pairs) }
decoder_of Raw = record { Returned = List ℕ; Value = List ℕ; told = given; decoded = given; make = λ s. raw_of }

made_by : (l : EntryLayout) (s : List ℕ) → decode_as l s ≡ and_then ((decoder_of l).decoded s) (λ u. given ((decoder_of l).make s u))
made_by Roll s = refl
made_by Rap s = refl
made_by Tele s = refl
made_by Sap s = refl
made_by Rash s = refl
made_by Alst s = refl
made_by Raw s = refl

-- of an entry below the limit, whose decoder returned y
pub front-told : (m : EntryLayout) (s : List ℕ) → length s ≤ input_limit → {l : EntryLayout} → l ≡ m
    → {y r : (decoder_of m).Returned} → (decoder_of m).told y ≡ within s ((decoder_of m).decoded s) → y ≡ r
    → FrontIs (and_then ((decoder_of m).told r) (λ u. given (front_size m s))) l s
front-told m s h p {y} {r} e q =
    let d = decoder_of m in
    let told : d.told r ≡ d.decoded s = ap d.told (sym q) ∙ e ∙ within-short s (d.decoded s) h in
    rw (p, made_by m s) (ap (λ a. and_then a (λ u. given (front_size m s))) told ∙ sym (and_then_assoc (d.decoded s) (λ u. given (d.make s u)) (λ v. given (front_size m s))))

-- a short layout by the length alone
pub short-refused : (l : EntryLayout) (n : ℕ) → Short l n → (s : List ℕ) → length s < n → FrontIs (refused 40) l s
unfolding decode_roll decode_rap decode_tele decode_sap
short-refused Roll n p s h = simp (lt-ltb _ _ (rw p at h))
short-refused Rap n p s h = simp (lt-ltb _ _ (rw p at h))
short-refused Tele n p s h = simp (lt-ltb _ _ (rw p at h))
short-refused Sap n p s h = simp (lt-ltb _ _ (rw p at h))
short-refused Rash n p s h = elim p [ ]
short-refused Alst n p s h = elim p [ ]
short-refused Raw n p s h = elim p [ ]

pub short-front : (l : EntryLayout) (n : ℕ) → Short l n → (s : List ℕ) → n ≤ length s → FrontIs (given n) l s
unfolding decode_roll decode_rap decode_tele decode_sap
short-front Roll n p s h = rw p (simp (le-ltb _ _ (rw p at h)))
short-front Rap n p s h = rw p (simp (le-ltb _ _ (rw p at h)))
short-front Tele n p s h = rw p (simp (le-ltb _ _ (rw p at h)))
short-front Sap n p s h = rw p (simp (le-ltb _ _ (rw p at h)))
short-front Rash n p s h = elim p [ ]
short-front Alst n p s h = elim p [ ]
short-front Raw n p s h = elim p [ ]

pub front-within : (l : EntryLayout) (s : List ℕ) → Sized l s → front_size l s ≤ length s
front-within Roll s h = h
front-within Rap s h = h
front-within Tele s h = h
front-within Sap s h = h
front-within Rash s h = h
front-within Alst s h = le_refl _
front-within Raw s h = le_refl _

-- a front's length comes with the value
pub record Fronted (l : EntryLayout) (s : List ℕ) (n : ℕ) : Type 0 where
  pub decodes : decode_as l s ≡ given (value_of l s)
  pub front : n ≡ front_size l s
  pub sized : Sized l s

pub fronted : (l : EntryLayout) (s : List ℕ) {n : ℕ} → FrontIs (given n) l s → Fronted l s n
fronted l s e =
    let first = given-first (decode_as l s) (λ v. given (front_size l s)) (sym e) in
    let v = valued l s first.1 in
    record { decodes = first.1 ∙ ap given v.0; front = sym (given_inj first.2); sized = v.1 }

pub reach : (l : EntryLayout) (s : List ℕ) {n : ℕ} → FrontIs (given n) l s → n ≤ length s
reach l s e = let f = fronted l s e in rw f.front (front-within l s f.sized)
