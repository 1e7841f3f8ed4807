-- Two bodies for type roll that differ in a csgp and in an sgpd of another type, and in an index value of a csgp of which there are no samples, as there
-- is no sgpd: both are refused with 52.
use mathlib.Core.Path.{◌≡◌, refl}
use mathlib.Core.Logic.{inr}
use mathlib.Core.List.{[], ◌∷◌}
use mathlib.Core.Option.{some}
use Prim.Native.Nat.{ℕ, ◌+◌, ◌-◌, ◌<◌, ◌≤◌}
use native.Mathlib.Omega.{arith}
use lib.ListN.{set}
use Rattle.base_fields.specs.Answer.{given, refused}
use Rattle.base_fields.specs.Number.{be_at, bit_at, bits_at}
use Rattle.base_fields.specs.Fourcc as fourcc
use Rattle.atom_tree.specs.Atom.{Child, header_at, child_at}
use Rattle.table_rows.specs.Pattern.{samples_of}
use Rattle.table_csgp_head.specs.Csgp.{width_of, pattern_count_of, stream_place, read_pairs}
use Rattle.listing_spec.specs.Walk.{body_of, visit_table, visit_sgpd, visit, walk_in, walk_from, sources}
use Rattle.listing_spec.specs.Group.{group_taken}
use Rattle.listing_spec.specs.Cue.{cue_listing}
use Rattle.listing_spec.specs.Meanings.{patterns_in}
use Rattle.listing_indifference.specs.Bits.{Differ}
use Rattle.listing_indifference.specs.Places as places
use Rattle.listing_indifference.specs.Places.{CsgpListed, SgpdListed}
use Rattle.listing_indifference.specs.Examples.{none_body as body, none_other as other}
use Rattle.listing_indifference.specs.Body.{child_bytes, in_csgp, in_sgpd, used_indices, BodyListed}
use Rattle.listing_indifference.proofs.Differ.{differ-refl}
use Rattle.listing_indifference.proofs.Changes.{below, differ_byte}
use Rattle.listing_indifference.proofs.Indifferent.{indifferent}

abbrev first : Child
first = record { head = record { type = 0x63736770; size = some 17; header_length = 8; body = 8 }; next = 17 }

abbrev second : Child
second = record { head = record { type = 0x73677064; size = some 17; header_length = 8; body = 25 }; next = 34 }

abbrev table : Child
table = record { head = record { type = 0x63736770; size = some 25; header_length = 8; body = 42 }; next = 59 }

abbrev May : ℕ → Type 0
May i = BodyListed body fourcc.roll i

-- the 9th byte of each atom of another type
module _ (i j : ℕ) (l : j < 8) where
  in-first : i ≡ 128 + j → May i
  unfolding header_at child_at be_at
  in-first e =
      let d : i - 64 ≡ 64 + j = omega arith in
      record {
        number = 0;
        place = 0;
        child = first;
        reached = refl;
        there = refl;
        from = omega arith;
        before = omega arith;
        listed = rw d (in_csgp refl (places.CsgpListed.other_type (λ e. omega arith) (omega arith)));
      }

  in-second : i ≡ 264 + j → May i
  unfolding header_at child_at be_at
  in-second e =
      let d : i - 200 ≡ 64 + j = omega arith in
      record {
        number = 1;
        place = 17;
        child = second;
        reached = (0, first, refl, refl, refl);
        there = refl;
        from = omega arith;
        before = omega arith;
        listed = rw d (in_sgpd refl (places.SgpdListed.other_type (λ e. omega arith) (omega arith)));
      }

-- no table is taken whose samples would use an index
no_samples : used_indices body fourcc.roll ≡ []
unfolding header_at child_at be_at body_of visit_table visit_sgpd visit walk_in walk_from sources patterns_in samples_of
no_samples = refl

pairs-read : read_pairs (pattern_count_of (child_bytes body table)) (child_bytes body table) (stream_place (child_bytes body table))
    ≡ given (record { pattern_length = 1; sample_count_of = 1 } ∷ [])
unfolding be_at bit_at bits_at width_of read_pairs
pairs-read = refl

-- the last byte of the index, which has 32 bits: not its highest bit
unused : (k : ℕ) → 128 ≤ k → k < 136 → CsgpListed fourcc.roll (used_indices body fourcc.roll) (child_bytes body table) k
unfolding be_at width_of
unused k l m = places.CsgpListed.no_sample no_samples pairs-read (omega arith) (omega arith) (λ z. let w = z.top in omega arith)

in-index : (i j : ℕ) → j < 8 → i ≡ 464 + j → May i
unfolding header_at child_at be_at
in-index i j l e =
    let d : i - 336 ≡ 128 + j = omega arith in
    record {
      number = 2;
      place = 34;
      child = table;
      reached = (17, second, (0, first, refl, refl, refl), refl, refl);
      there = refl;
      from = omega arith;
      before = omega arith;
      listed = rw d (in_csgp refl (unused (128 + j) (omega arith) (omega arith)));
    }

related : Differ May body other
related =
    let may = May in
    let b1 = set body 16 77 in
    let b2 = set b1 33 77 in
    let d0 = differ-refl may body (below body refl) in
    let d1 = differ_byte may body body d0 16 77 (omega arith) (omega arith) (λ j l. inr (in-first (128 + j) j l (omega arith))) in
    let d2 = differ_byte may body b1 d1 33 77 (omega arith) (omega arith) (λ j l. inr (in-second (264 + j) j l (omega arith))) in
    differ_byte may body b2 d2 58 0xfe (omega arith) (omega arith) (λ j l. inr (in-index (464 + j) j l (omega arith)))

pub example : (room size : ℕ) → cue_listing body fourcc.roll room size ≡ cue_listing other fourcc.roll room size
example room size = indifferent fourcc.roll body other (record { differ = related }) room size

pub none-refused : (room size : ℕ) → cue_listing body fourcc.roll room size ≡ refused 52
unfolding header_at child_at be_at body_of visit_table visit_sgpd visit walk_in walk_from sources group_taken cue_listing
none-refused room size = refl
