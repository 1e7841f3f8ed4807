-- Two bodies that differ in eight of A11's items at once: another kind of atom, sbgp and sgpd flags, a parameter, bytes after a row and after an
-- entry, a byte that the roll decoder does not read, and an entry that no sample uses.
use mathlib.Core.Path.{◌≡◌, refl}
use mathlib.Core.Logic.{inl, inr}
use mathlib.Core.List.Memᴰ
use mathlib.Core.List.{List, [], ◌∷◌, Memᴰ}
use mathlib.Core.Option.{some}
use Prim.Native.Nat.{ℕ, ◌+◌, ◌-◌, ◌<◌, ◌≤◌}
use native.Mathlib.Omega.{arith}
use lib.ListN.{set}
use Rattle.base_fields.specs.Answer.{given}
use Rattle.base_fields.specs.Number.{be_at}
use Rattle.base_fields.specs.Fourcc as fourcc
use Rattle.atom_tree.specs.Atom.{Child, header_at, child_at}
use Rattle.table_rows.specs.Row.{Table}
use Rattle.table_rows.specs.Pattern.{index_in, samples_from, samples_of}
use Rattle.table_sbgp.specs.Sbgp.{read_rows, sbgp}
use Rattle.base_fields.specs.Span.{Span, bytes_at}
use Rattle.group_sgpd.specs.Sgpd.{span_at, spans, sgpd}
use Rattle.listing_spec.specs.Walk.{body_of, visit_table, visit_sgpd, visit, walk_in, walk_from, sources}
use Rattle.listing_spec.specs.Table.{patterns_taken}
use Rattle.listing_spec.specs.Cue.{cue_listing}
use Rattle.listing_spec.specs.Meanings.{patterns_in}
use Rattle.listing_indifference.specs.Bits.{Differ}
use Rattle.listing_indifference.specs.Places as places
use Rattle.listing_indifference.specs.Places.{SbgpListed, EntryListed, InEntries, laid_out, entries_laid, SgpdListed}
use Rattle.listing_indifference.specs.Examples.{roll_body as body, roll_other as other}
use Rattle.listing_indifference.specs.Body.{child_bytes, other_kind, in_sbgp, in_sgpd, used_indices, BodyListed}
use Rattle.listing_indifference.proofs.Differ.{differ-refl}
use Rattle.listing_indifference.proofs.Changes.{differ_byte, below}
use Rattle.listing_indifference.proofs.Indifferent.{indifferent}

abbrev free : Child
free = record { head = record { type = 0x66726565; size = some 10; header_length = 8; body = 8 }; next = 10 }

abbrev table : Child
table = record { head = record { type = 0x73626770; size = some 33; header_length = 8; body = 18 }; next = 43 }

abbrev descriptions : Child
descriptions = record { head = record { type = 0x73677064; size = some 31; header_length = 8; body = 51 }; next = 74 }

abbrev entries : List Span
entries = record { place = 16; size = 3 } ∷ record { place = 19; size = 3 } ∷ []

-- listed bits of each child
module _ (i : ℕ) where
  in-free : 64 ≤ i → i < 80 → BodyListed body fourcc.roll i
  unfolding header_at child_at be_at
  in-free l m =
      record {
        number = 0;
        place = 0;
        child = free;
        reached = refl;
        there = refl;
        from = l;
        before = m;
        listed = other_kind (λ e. omega arith) (λ e. omega arith) (λ e. omega arith);
      }

  module _ (k : ℕ) where
    in_table : i ≡ 144 + k → k < 200 → SbgpListed fourcc.roll (child_bytes body table) k → BodyListed body fourcc.roll i
    unfolding header_at child_at be_at
    in_table e m x =
        let d : i - 144 ≡ k = omega arith in
        record {
          number = 1;
          place = 10;
          child = table;
          reached = (0, free, refl, refl, refl);
          there = refl;
          from = omega arith;
          before = omega arith;
          listed = rw d (in_sbgp refl x);
        }

    in-descriptions : i ≡ 408 + k → k < 184 → SgpdListed fourcc.roll (used_indices body fourcc.roll) (child_bytes body descriptions) k
        → BodyListed body fourcc.roll i
    unfolding header_at child_at be_at
    in-descriptions e m x =
        let d : i - 408 ≡ k = omega arith in
        record {
          number = 2;
          place = 43;
          child = descriptions;
          reached = (10, table, (0, free, refl, refl, refl), refl, refl);
          there = refl;
          from = omega arith;
          before = omega arith;
          listed = rw d (in_sgpd refl x);
        }

-- no sample uses entry 2
unused : Memᴰ 2 (used_indices body fourcc.roll) → ⊥
unfolding header_at child_at be_at body_of visit_table visit_sgpd visit walk_in walk_from sources patterns_taken read_rows sbgp patterns_in samples_of samples_from index_in
unused m =
    elim (Memᴰ.cases_cons m) [
      | inl e ↦ omega arith
      | inr x ↦ elim (Memᴰ.cases_cons x) [ inl e ↦ omega arith | inr y ↦ Memᴰ.not-nil y ]
    ]

read : sgpd (child_bytes body descriptions) ≡ given entries
unfolding be_at span_at spans sgpd
read = refl

laid : (P : ℕ → Span → ℕ → Type 0) (i : ℕ) → InEntries P 1 entries i → InEntries P 1 (entries_laid (child_bytes body descriptions)) i
unfolding be_at laid_out
laid P i x = x

rows-read : (x : Table) × (sbgp (child_bytes body table) ≡ given x)
unfolding be_at read_rows sbgp
rows-read = (_, refl)

-- the first byte changed, then the second, and so on
abbrev May : ℕ → Type 0
May i = BodyListed body fourcc.roll i

related : Differ May body other
unfolding be_at
related =
    let may = May in
    let b1 = set body 8 77 in
    let b2 = set b1 19 1 in
    let b3 = set b2 26 9 in
    let b4 = set b3 42 200 in
    let b5 = set b4 54 255 in
    let b6 = set b5 69 255 in
    let b7 = set b6 71 88 in
    let d1 = differ_byte may body body (differ-refl may body (below body refl)) 8 77 (omega arith) (omega arith)
    (λ j l. inr (in-free (64 + j) (omega arith) (omega arith))) in
    let d2 = differ_byte may body b1 d1 19 1 (omega arith) (omega arith)
    (λ j l. inr (in_table (152 + j) (8 + j) (omega arith) (omega arith) (places.SbgpListed.flags (omega arith) (omega arith)))) in
    let d3 = differ_byte may body b2 d2 26 9 (omega arith) (omega arith)
    (λ j l. inr (in_table (208 + j) (64 + j) (omega arith) (omega arith) (places.SbgpListed.parameter refl (omega arith) (omega arith)))) in
    let d4 = differ_byte may body b3 d3 42 200 (omega arith) (omega arith)
    (λ j l. inr (in_table (336 + j) (192 + j) (omega arith) (omega arith) (places.SbgpListed.after_rows rows-read.1 (omega arith)))) in
    let d5 = differ_byte may body b4 d4 54 255 (omega arith) (omega arith)
    (λ j l. inr (in-descriptions (432 + j) (24 + j) (omega arith) (omega arith) (places.SgpdListed.flags (omega arith) (omega arith)))) in
    let d6 = differ_byte may body b5 d5 69 255 (omega arith) (omega arith)
    (λ j l. inr (in-descriptions (552 + j) (144 + j) (omega arith) (omega arith)
    (places.SgpdListed.ignored (laid (λ k e i. EntryListed fourcc.roll (bytes_at (child_bytes body descriptions) e) i) _ (inl (omega arith, omega arith, places.EntryListed.after_roll refl (omega arith))))))) in
    let d7 = differ_byte may body b6 d6 71 88 (omega arith) (omega arith)
    (λ j l. inr (in-descriptions (568 + j) (160 + j) (omega arith) (omega arith)
    (places.SgpdListed.unused_entry (laid (λ k e i. Memᴰ k (used_indices body fourcc.roll) → ⊥) _ (inr (inl (omega arith, omega arith, unused))))))) in
    differ_byte may body b7 d7 73 1 (omega arith) (omega arith)
    (λ j l. inr (in-descriptions (584 + j) (176 + j) (omega arith) (omega arith) (places.SgpdListed.after_entries read (omega arith))))

pub example : (room size : ℕ) → cue_listing body fourcc.roll room size ≡ cue_listing other fourcc.roll room size
example room size = indifferent fourcc.roll body other (record { differ = related }) room size
