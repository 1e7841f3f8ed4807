-- The value of an entry that decodes, by layout and without the decoder's tests.
use mathlib.Core.Path.{◌≡◌, ap, sym, ◌∙◌}
use mathlib.Core.List.{List}
use Prim.Native.Nat.{ℕ, ◌+◌, ◌-◌, ◌*◌, ◌/◌, ◌%◌, ◌≤◌}
use lib.Dec.{ltb}
use lib.ListN.{length}
use borrow.Author.Tests.{ltb-false}
use Rattle.base_fields.specs.Answer.{Answer, given, refuse_if, and_then}
use Rattle.base_fields.specs.Number.{be_at}
use Rattle.base_fields.proofs.Answers.{given_inj, given-past, given-first}
use Rattle.group_entries.specs.Decoded.{Decoded, roll_of, rap_of, tele_of, sap_of, rash_of, alst_of, raw_of, signed16, top_bit, decode_roll, decode_rap, decode_tele, decode_sap, decode_rash, decode_alst, point_at, points_end, offset_at, offsets_end, pair_at, up_to}
use Rattle.group_entries.specs.Layout.{decode_as}
use Rattle.group_entries.specs.declared.EntryLayout.{EntryLayout}
use Rattle.group_entries.specs.declared.EntryLayout.TheVariants.{Roll, Rap, Tele, Sap, Rash, Alst, Raw}
use Rattle.group_entries.proofs.Extent.{rash_at, rash-given, alst_at, alst-given}

abbrev pub value_of : EntryLayout → List ℕ → Decoded
value_of Roll s = roll_of (signed16 (be_at 2 s 0))
value_of Rap s = rap_of (record { known = top_bit (be_at 1 s 0); number = be_at 1 s 0 % 128 })
value_of Tele s = tele_of (top_bit (be_at 1 s 0))
value_of Sap s = sap_of (record { dependent = top_bit (be_at 1 s 0); type = be_at 1 s 0 % 16 })
value_of Rash s = rash_of (rash_at s) (up_to (point_at s) 0 (rash_at s).points)
value_of Alst s = alst_of (alst_at s) (up_to (offset_at s) 0 (alst_at s).roll_count_of) (up_to (pair_at s) 0 (alst_at s).pairs)
value_of Raw s = raw_of s

-- what the tests leave of the length
abbrev pub Sized : EntryLayout → List ℕ → Type 0
Sized Roll s = 2 ≤ length s
Sized Rap s = 1 ≤ length s
Sized Tele s = 1 ≤ length s
Sized Sap s = 1 ≤ length s
Sized Rash s = points_end s + 9 ≤ length s
Sized Alst s = offsets_end s + 4 * ((length s - offsets_end s) / 4) ≡ length s
Sized Raw s = Unit

-- a value made of what the decoder x gives
made : {A Q : Type 0} (x : Answer A) (f : A → Decoded) (w : A) → ((u : A) → x ≡ given u → (u ≡ w) × Q)
    → {v : Decoded} → and_then x (λ u. given (f u)) ≡ given v → (v ≡ f w) × Q
made x f w tells e =
    let first = given-first x (λ u. given (f u)) e in
    let told = tells first.0 first.1 in
    (sym (given_inj first.2) ∙ ap f told.0, told.1)

-- behind a test of the length alone
long : {A : Type 0} (s : List ℕ) (n : ℕ) (w u : A) → refuse_if (ltb (length s) n) 40 (given w) ≡ given u → (u ≡ w) × (n ≤ length s)
long s n w u e = let p = given-past (ltb (length s) n) 40 (given w) e in (sym (given_inj p.1), ltb-false (length s) n p.0)

pub valued : (l : EntryLayout) (s : List ℕ) {v : Decoded} → decode_as l s ≡ given v → (v ≡ value_of l s) × Sized l s
unfolding decode_roll decode_rap decode_tele decode_sap
valued Roll s e = made (decode_roll s) roll_of _ (long s 2 _) e
valued Rap s e = made (decode_rap s) rap_of _ (long s 1 _) e
valued Tele s e = made (decode_tele s) tele_of _ (long s 1 _) e
valued Sap s e = made (decode_sap s) sap_of _ (long s 1 _) e
valued Rash s e = made (decode_rash s) (λ r. rash_of r (up_to (point_at s) 0 r.points)) (rash_at s) (λ u. rash-given s) e
valued Alst s e = made (decode_alst s) (λ a. alst_of a (up_to (offset_at s) 0 a.roll_count_of) (up_to (pair_at s) 0 a.pairs)) (alst_at s) (λ u. alst-given s) e
valued Raw s e = (sym (given_inj e), tt)
