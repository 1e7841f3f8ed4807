-- In an stbl a marked index has kind 1 (document 02, A7). `meaning_of` says so with no word of marks: a marked index is 2^31 or more, also one whose low bits
-- are 0, and no sgpd that is read has so many entries.
use mathlib.Core.Path.{◌≡◌, refl}
use mathlib.Core.Bool.{true}
use mathlib.Core.List.{List}
use Prim.Native.Nat.{ℕ, zero, suc, ◌≤◌}
use native.Mathlib.Omega.{arith}
use borrow.Author.Tests.{le-ltb}
use lib.ListN.{length, length-map}
use Rattle.base_fields.specs.Answer.{given}
use Rattle.base_fields.specs.Number.{bit_at}
use Rattle.base_fields.specs.Span.{bytes_at}
use Rattle.base_fields.proofs.Answers.{given_inj, given-first}
use Rattle.base_ids.specs.Limits.{local_mark}
use Rattle.table_patterns.specs.Place.{index_field}
use Rattle.table_patterns.proofs.Marks.{marked-large}
use Rattle.table_csgp_head.specs.Csgp.{has_marks, index_width_of}
use Rattle.table_csgp_head.proofs.Widths.{widths}
use Rattle.group_sgpd.specs.Sgpd.{sgpd}
use Rattle.group_sgpd.proofs.Few.{entries-limit}
use Rattle.listing_theorem.specs.Meaning.{missing}
use Rattle.listing_theorem.specs.Samples.{meaning_of}
use Rattle.listing_spec.specs.Table.{entries_of}

past-missing : (t : ℕ) (entries : List (List ℕ)) (i : ℕ) → suc (length entries) ≤ i → meaning_of t entries i ≡ given missing
unfolding meaning_of
past-missing t entries zero h = absurd (omega arith)
past-missing t entries (suc i) h = let b : length entries ≤ i = omega arith in rw (le-ltb _ _ b) refl

-- the entries of an sgpd's payload s
module _ (t : ℕ) (s : List ℕ) {entries : List (List ℕ)} (read : entries_of s ≡ given entries) where
  few : suc (length entries) ≤ local_mark
  few =
      let first = given-first (sgpd s) _ read in
      let same = length-map first.0 (λ e. bytes_at s e) in
      rw (← (given_inj first.2), same) (omega (arith, entries-limit s first.1))

  -- bit 31 alone decides, in rows of an sbgp too
  pub local-missing : (i : ℕ) → local_mark ≤ i → meaning_of t entries i ≡ given missing
  local-missing i h = past-missing t entries i (omega (arith, few))

  -- a field of any width whose highest bit is its mark
  pub marked-missing : (table : List ℕ) (w p : ℕ) → 1 ≤ w → bit_at table p ≡ 1 → meaning_of t entries (index_field true w table p) ≡ given missing
  marked-missing table w p h e = local-missing _ (marked-large w table p h e)

  -- an index of a csgp that has marks
  pub csgp-missing : (table : List ℕ) (p : ℕ) → has_marks table ≡ true → bit_at table p ≡ 1 →
      meaning_of t entries (index_field (has_marks table) (index_width_of table) table p) ≡ given missing
  csgp-missing table p m e = rw m (marked-missing table (index_width_of table) p (omega (arith, (widths table).index)) e)
