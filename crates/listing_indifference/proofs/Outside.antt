-- Pairs just outside the items of request A11: one bit beside those that an item lists is turned over, and the two bodies get other listings, or one of
-- them another refusal. So no item can be wider by that bit.
use mathlib.Core.Path.{◌≡◌, refl, sym, ◌∙◌}
use mathlib.Core.Bool.{Bool, true, false}
use mathlib.Core.List.{List, [], ◌∷◌, ◌++◌}
use Prim.Native.Nat.{ℕ, ◌+◌, ◌-◌, ◌/◌, ◌%◌, ◌^◌}
use native.Mathlib.Omega.{arith}
use borrow.Author.Tests.{eq-eqb}
use lib.Dec.{eqb}
use lib.ListN.{get_or, set}
use Rattle.base_fields.specs.Answer.{Answer, given, none, refused, choose}
use Rattle.base_fields.specs.Number.{be_at, bit_at, bits_at}
use Rattle.base_fields.specs.Fourcc as fourcc
use Rattle.atom_tree.specs.Atom.{header_at, child_at}
use Rattle.table_rows.specs.Pattern.{index_in, samples_from, samples_of}
use Rattle.table_replay.specs.Replay.{enter, replay}
use Rattle.table_sbgp.specs.Sbgp.{read_rows, sbgp}
use Rattle.table_csgp_head.specs.Csgp.{width_of, read_pairs, read_indices, read_patterns, csgp}
use Rattle.group_sgpd.specs.Sgpd.{implicit_length, span_at, spans, sgpd}
use Rattle.group_entries.specs.Decoded.{signed16, decode_roll, decode_rap, decode_tele, decode_sap, decode_rash, point_at, up_to}
use Rattle.group_entries.specs.Layout.{decode}
use Rattle.listing_theorem.specs.Groups.{groups_in, groups}
use Rattle.listing_theorem.specs.Listing.{each, listing}
use Rattle.listing_theorem.specs.Same.{same}
use Rattle.listing_theorem.specs.Stretches.{enter_stretch, stretches}
use Rattle.listing_theorem.specs.Samples.{meaning_of, meanings}
use Rattle.listing_spec.specs.Walk.{body_of, visit_table, visit_sgpd, visit, walk_in, walk_from, sources}
use Rattle.listing_spec.specs.Table.{taken_table, entries_taken}
use Rattle.listing_spec.specs.Group.{group_taken}
use Rattle.listing_spec.specs.Cue.{Cue, cue_listing}
use Rattle.listing_indifference.specs.Body.{Indifferent}
use Rattle.listing_indifference.specs.Examples as example
use Rattle.listing_indifference.specs.Examples.{roll_body, tele_body, one_entry, one_prol, one_rap, one_tele, one_sap, one_rash, u32, roll}
use Rattle.listing_indifference.proofs.Indifferent.{indifferent}

-- bit i turned over
abbrev pub turned : List ℕ → ℕ → List ℕ
turned s i =
    let x = get_or s (i / 8) 0 in
    let m = 2 ^ (7 - i % 8) in
    set s (i / 8) (choose (eqb (x / m % 2) 0) (x + m) (x - m))

-- the bytes of two listings, or two refusals, compared
abbrev alike_bytes : List ℕ → List ℕ → Bool
alike_bytes [] [] = true
alike_bytes [] (y ∷ l) = false
alike_bytes (x ∷ k) [] = false
alike_bytes (x ∷ k) (y ∷ l) = choose (eqb x y) (alike_bytes k l) false

abbrev alike : Answer Cue → Answer Cue → Bool
alike (given x) (given y) = alike_bytes x.bytes y.bytes
alike (given x) none = false
alike (given x) (refused n) = false
alike none (given y) = false
alike none none = true
alike none (refused n) = false
alike (refused m) (given y) = false
alike (refused m) none = false
alike (refused m) (refused n) = eqb m n

-- a body for a type, and the bit
pub record Outside : Type 0 where
  pub type : ℕ
  pub body : List ℕ
  pub bit : ℕ

-- 2 records and 40 bytes are lent, enough for each
abbrev pub answer : Outside → Answer Cue
answer c = cue_listing c.body c.type 2 40

abbrev pub turned_answer : Outside → Answer Cue
turned_answer c = cue_listing (turned c.body c.bit) c.type 2 40

abbrev all_unlike : List Outside → Bool
all_unlike [] = true
all_unlike (c ∷ cs) = choose (alike (answer c) (turned_answer c)) false (all_unlike cs)

-- an atom before a body of one entry of roll
abbrev before : List ℕ → List ℕ
before other = other ++ one_entry roll (0xff ∷ 0xfe ∷ [])

-- one bit off roll
abbrev rolm : List ℕ
rolm = 0x72 ∷ 0x6f ∷ 0x6c ∷ 0x6d ∷ []

-- a csgp behind its version, with one entry
abbrev compact : List ℕ → List ℕ
compact rest = example.csgp (0 ∷ 0 ∷ 0 ∷ rest) ++ example.sgpd (1 ∷ 0 ∷ 0 ∷ 0 ∷ roll ++ u32 2 ++ u32 1 ++ 0xff ∷ 0xfe ∷ [])

-- 32-bit indices [1,2] of count 1, so that the second is unused; the same with the second too large; and with the second cut
abbrev wide : List ℕ
wide = compact (3 ∷ roll ++ u32 1 ++ 0x21 ∷ u32 1 ++ u32 2)

abbrev large : List ℕ
large = turned wide 200

abbrev cut : List ℕ
cut = compact (3 ∷ roll ++ u32 1 ++ 0x21 ∷ u32 1)

abbrev pub cases : List Outside
cases =
    -- sbgp flags: the last bit of the version, the first bit of the type
    record { type = fourcc.roll; body = roll_body; bit = 151 } ∷
    record { type = fourcc.roll; body = roll_body; bit = 176 } ∷
    -- sgpd flags, likewise
    record { type = fourcc.roll; body = roll_body; bit = 415 } ∷
    record { type = fourcc.roll; body = roll_body; bit = 440 } ∷
    -- csgp flags: bit 7, with an index that has its highest bit, and bit 6
    record { type = fourcc.roll; body = large; bit = 88 } ∷
    record { type = fourcc.tele; body = tele_body; bit = 225 } ∷
    -- parameter: the last bit of the type, of an sbgp and of a csgp, and the first bit of the count
    record { type = fourcc.roll; body = roll_body; bit = 207 } ∷
    record { type = fourcc.tele; body = tele_body; bit = 263 } ∷
    record { type = fourcc.roll; body = roll_body; bit = 240 } ∷
    -- bytes after: the last bit of the last row, of the last index, of the last entry
    record { type = fourcc.roll; body = roll_body; bit = 335 } ∷
    record { type = fourcc.roll; body = compact (0 ∷ roll ++ u32 1 ++ 0x11 ∷ 0x10 ∷ []); bit = 171 } ∷
    record { type = fourcc.roll; body = before []; bit = 431 } ∷
    -- other kinds of atom: the first bit of the body of a known kind; the last bit of the size, and of the type, of another kind
    record { type = fourcc.roll; body = roll_body; bit = 144 } ∷
    record { type = fourcc.roll; body = roll_body; bit = 31 } ∷
    record { type = fourcc.roll; body = before (example.atom (0x73 ∷ 0x62 ∷ 0x67 ∷ 0x71 ∷ []) (u32 0 ++ roll)); bit = 63 } ∷
    -- other grouping types: the last bit of the 8th byte, of an sbgp, a csgp and an sgpd
    record { type = fourcc.roll; body = before (example.sbgp (u32 0 ++ rolm)); bit = 127 } ∷
    record { type = fourcc.roll; body = before (example.csgp (u32 0 ++ rolm)); bit = 127 } ∷
    record { type = fourcc.roll; body = before (example.sgpd (u32 0 ++ rolm)); bit = 127 } ∷
    -- unused index values: the last bit of one that is used; the highest bit of an unused one, with samples and without
    record { type = fourcc.tele; body = tele_body; bit = 339 } ∷
    record { type = fourcc.roll; body = wide; bit = 200 } ∷
    record { type = fourcc.roll; body = cut; bit = 168 } ∷
    -- unused entries: a bit of one that is used, the last that roll reads
    record { type = fourcc.roll; body = roll_body; bit = 551 } ∷
    -- the high bit of tele; the high bit of "sap " and the first of its low four
    record { type = fourcc.tele; body = tele_body; bit = 512 } ∷
    record { type = fourcc.sap; body = one_sap; bit = 416 } ∷
    record { type = fourcc.sap; body = one_sap; bit = 420 } ∷
    -- the last bit that is read of prol, "rap ", "sap " and rash. (Of tele it is the high bit)
    record { type = fourcc.prol; body = one_prol; bit = 431 } ∷
    record { type = fourcc.rap; body = one_rap; bit = 423 } ∷
    record { type = fourcc.tele; body = one_tele; bit = 416 } ∷
    record { type = fourcc.sap; body = one_sap; bit = 423 } ∷
    record { type = fourcc.rash; body = one_rash; bit = 519 } ∷
    []

unlike : all_unlike cases ≡ true
unfolding header_at child_at be_at bit_at bits_at body_of visit_table visit_sgpd visit walk_in walk_from sources taken_table entries_taken read_rows sbgp width_of read_pairs read_indices read_patterns csgp enter replay implicit_length span_at spans sgpd meanings meaning_of decode decode_roll decode_rap decode_tele decode_sap decode_rash point_at up_to signed16 samples_of samples_from index_in group_taken cue_listing listing each groups groups_in stretches enter_stretch same
unlike = refl

-- what is the same is alike
bytes-alike : (l : List ℕ) → alike_bytes l l ≡ true
bytes-alike [] = refl
bytes-alike (x ∷ l) = rw (eq-eqb x x refl) (bytes-alike l)

alike_same : (x : Answer Cue) → alike x x ≡ true
alike_same (given x) = bytes-alike x.bytes
alike_same none = refl
alike_same (refused n) = eq-eqb n n refl

apart : (x y : Answer Cue) (rest : Bool) → choose (alike x y) false rest ≡ true → (x ≡ y → ⊥) × (rest ≡ true)
apart x y rest e = by (alike x y) refl e
  where
    by : (b : Bool) → alike x y ≡ b → choose b false rest ≡ true → (x ≡ y → ⊥) × (rest ≡ true)
    by true f g = let z : ◌≡◌ {A = ℕ} 0 1 = cc in absurd (omega arith)
    by false f g = (λ h. let k = sym (alike_same x) ∙ rw (← h) at f in let z : ◌≡◌ {A = ℕ} 0 1 = cc in omega arith, g)

-- the listings are not the same, and so the bodies are not related
pub record Apart (c : Outside) : Type 0 where
  pub listings : answer c ≡ turned_answer c → ⊥
  pub unrelated : Indifferent c.type c.body (turned c.body c.bit) → ⊥

abbrev pub AllApart : List Outside → Type 0
AllApart [] = Unit
AllApart (c ∷ cs) = Apart c × AllApart cs

all_apart : (cs : List Outside) → all_unlike cs ≡ true → AllApart cs
all_apart [] e = tt
all_apart (c ∷ cs) e =
    let f = apart (answer c) (turned_answer c) (all_unlike cs) e in
    (record { listings = f.0; unrelated = λ i. f.0 (indifferent c.type c.body (turned c.body c.bit) i 2 40) }, all_apart cs f.1)

pub outside : AllApart cases
outside = all_apart cases unlike
