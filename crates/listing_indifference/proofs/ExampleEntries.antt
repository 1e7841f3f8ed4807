-- Bodies of one entry that differ in what its decoder passes over: each of the six types that ignore something.
use mathlib.Core.Path.{◌≡◌, refl}
use mathlib.Core.Logic.{◌⊎◌, inl, inr}
use mathlib.Core.Bool.{true}
use mathlib.Core.List.{List, [], ◌∷◌}
use mathlib.Core.Option.{some}
use Prim.Native.Nat.{ℕ, ◌+◌, ◌-◌, ◌*◌, ◌/◌, ◌%◌, ◌^◌, ◌<◌}
use native.Mathlib.Omega.{arith}
use lib.ListN.{length, get_or, set}
use Rattle.base_fields.specs.Answer.{given}
use Rattle.base_fields.specs.Number.{be_at}
use Rattle.base_fields.specs.Span.{Span, bytes_at}
use Rattle.base_fields.specs.Fourcc as fourcc
use Rattle.atom_tree.specs.Atom.{Child, header_at, child_at}
use Rattle.group_entries.specs.Decoded.{decode_rash}
use Rattle.listing_spec.specs.Cue.{cue_listing}
use Rattle.listing_indifference.specs.Places as places
use Rattle.listing_indifference.specs.Places.{EntryListed, laid_out, entries_laid}
use Rattle.listing_indifference.specs.Body.{child_bytes, in_sgpd, BodyListed}
use Rattle.listing_indifference.specs.Examples.{one_prol, one_rap, one_tele, one_sap, one_rash}
use Rattle.listing_indifference.proofs.Differ.{differ-refl}
use Rattle.listing_indifference.proofs.Changes.{under, below, differ_byte, each-bit}
use Rattle.listing_indifference.proofs.Indifferent.{indifferent}

abbrev table : Child
table = record { head = record { type = 0x73626770; size = some 28; header_length = 8; body = 8 }; next = 28 }

-- the sgpd, with an entry of n bytes
abbrev descriptions : ℕ → Child
descriptions n = record { head = record { type = 0x73677064; size = some (24 + n); header_length = 8; body = 36 }; next = 52 + n }

abbrev entry : ℕ → Span
entry n = record { place = 16; size = n }

-- a body of one entry
record OneEntry (n : ℕ) (body : List ℕ) : Type 0 where
  bytes : under body ≡ true
  long : length body ≡ 52 + n
  first : child_at body 0 (some (length body)) ≡ given table
  second : child_at body 28 (some (length body)) ≡ given (descriptions n)
  laid : entries_laid (child_bytes body (descriptions n)) ≡ entry n ∷ []

module _ (t n : ℕ) (body : List ℕ) (b : OneEntry n body) where
  abbrev contents : List ℕ
  contents = bytes_at (child_bytes body (descriptions n)) (entry n)

  in_entry : (i j : ℕ) → i ≡ 416 + j → j < 8 * n → EntryListed t contents j → BodyListed body t i
  in_entry i j e l x =
      let d : i - 8 * 36 ≡ 128 + j = omega arith in
      let f : 128 + j - 8 * 16 ≡ j = omega arith in
      record {
        number = 1;
        place = 28;
        child = descriptions n;
        reached = (0, table, refl, b.first, refl);
        there = b.second;
        from = omega arith;
        before = omega arith;
        listed = rw d (in_sgpd refl (places.SgpdListed.ignored (rw b.laid (inl (omega arith, omega arith, rw f x)))));
      }

  -- byte o of the entry replaced by v
  one_byte : (o v : ℕ) → o < n → v < 256
      → ((j : ℕ) → j < 8 → (get_or body (52 + o) 0 / 2 ^ (7 - j) % 2 ≡ v / 2 ^ (7 - j) % 2) ⊎ EntryListed t contents (8 * o + j))
      → (room size : ℕ) → cue_listing body t room size ≡ cue_listing (set body (52 + o) v) t room size
  one_byte o v l m h room size =
      let P = BodyListed body t in
      let inside : 52 + o < length body = omega (arith, b.long) in
      indifferent t body (set body (52 + o) v)
      (record {
        differ = differ_byte P body body (differ-refl P body (below body b.bytes)) (52 + o) v inside m (λ j u. elim (h j u) [
          | inl x ↦ inl x
          | inr x ↦ inr (in_entry (8 * (52 + o) + j) (8 * o + j) (omega arith) (omega arith) x)
        ]);
      }) room size

pub prol-example : (room size : ℕ) → cue_listing one_prol fourcc.prol room size ≡ cue_listing (set one_prol 54 77) fourcc.prol room size
unfolding header_at child_at be_at laid_out
prol-example =
    one_byte fourcc.prol 3 one_prol (record { bytes = refl; long = refl; first = refl; second = refl; laid = refl }) 2 77 (omega arith) (omega arith)
    (λ j l. inr (places.after_prol refl (omega arith)))

pub rap-example : (room size : ℕ) → cue_listing one_rap fourcc.rap room size ≡ cue_listing (set one_rap 53 77) fourcc.rap room size
unfolding header_at child_at be_at laid_out
rap-example =
    one_byte fourcc.rap 2 one_rap (record { bytes = refl; long = refl; first = refl; second = refl; laid = refl }) 1 77 (omega arith) (omega arith)
    (λ j l. inr (places.after_rap refl (omega arith)))

pub tele-example : (room size : ℕ) → cue_listing one_tele fourcc.tele room size ≡ cue_listing (set one_tele 53 77) fourcc.tele room size
unfolding header_at child_at be_at laid_out
tele-example =
    one_byte fourcc.tele 2 one_tele (record { bytes = refl; long = refl; first = refl; second = refl; laid = refl }) 1 77 (omega arith) (omega arith)
    (λ j l. inr (places.after_tele refl (omega arith)))

one-sap : OneEntry 2 one_sap
unfolding header_at child_at be_at laid_out
one-sap = record { bytes = refl; long = refl; first = refl; second = refl; laid = refl }

pub sap-example : (room size : ℕ) → cue_listing one_sap fourcc.sap room size ≡ cue_listing (set one_sap 53 77) fourcc.sap room size
sap-example = one_byte fourcc.sap 2 one_sap one-sap 1 77 (omega arith) (omega arith) (λ j l. inr (places.after_sap refl (omega arith)))

-- 0x81 and 0xf1: the top bit and the low four are read
middle : (j : ℕ) → j < 8 → (0x81 / 2 ^ (7 - j) % 2 ≡ 0xf1 / 2 ^ (7 - j) % 2) ⊎ EntryListed fourcc.sap (contents fourcc.sap 2 one_sap one-sap) (8 * 0 + j)
middle =
    each-bit _ (inl refl) (inr (places.middle_sap refl (omega arith) (omega arith))) (inr (places.middle_sap refl (omega arith) (omega arith)))
    (inr (places.middle_sap refl (omega arith) (omega arith))) (inl refl) (inl refl) (inl refl) (inl refl)

pub sap-middle-example : (room size : ℕ) → cue_listing one_sap fourcc.sap room size ≡ cue_listing (set one_sap 52 0xf1) fourcc.sap room size
sap-middle-example = one_byte fourcc.sap 2 one_sap one-sap 0 0xf1 (omega arith) (omega arith) middle

pub rash-example : (room size : ℕ) → cue_listing one_rash fourcc.rash room size ≡ cue_listing (set one_rash 65 77) fourcc.rash room size
unfolding header_at child_at be_at laid_out decode_rash
rash-example =
    one_byte fourcc.rash 14 one_rash (record { bytes = refl; long = refl; first = refl; second = refl; laid = refl }) 13 77 (omega arith) (omega arith)
    (λ j l. inr (places.after_rash refl refl (omega arith)))
