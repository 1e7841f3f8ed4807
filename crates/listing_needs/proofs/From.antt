-- From what is read of a table and its descriptions to what their listing needs: the check of the used entries, and the listing's measure.
use mathlib.Core.Path.{◌≡◌, refl, ap, sym, ◌∙◌}
use mathlib.Core.List.{List}
use Prim.Native.Nat.{ℕ}
use native.Mathlib.Omega.{arith}
use lib.ListN.{length}
use Rattle.std.specs.Prelude.{Option, Some, None}
use Rattle.base_fields.specs.Answer.{given, refused}
use Rattle.base_fields.specs.Span.{Span, bytes_at}
use Rattle.atom_path.specs.Path.{stbl_at}
use Rattle.table_rows.specs.Pattern.{Pattern, samples_of}
use Rattle.table_needed.specs.Needed.{unlimited}
use Rattle.table_views.specs.Used.{used_in, first_refusal}
use Rattle.table_runs.specs.Ahead.{all_in, ahead_in, WholeIn}
use Rattle.table_runs.specs.declared.SampleTable.{SampleTable}
use Rattle.listing_theorem.specs.Meaning.{Meaning}
use Rattle.listing_theorem.specs.Samples.{meaning_of, meanings}
use Rattle.listing_spec.specs.Table.{entries_of}
use Rattle.listing_spec.specs.Group.{Group, group_taken}
use Rattle.listing_stretches.specs.Entered.{output_limit}
use Rattle.listing_measure.specs.Measured.{listing_of, GivesLength}
use Rattle.listing_measure.proofs.Checked.{meanings-refused, listing-by}
use Rattle.listing_needs.specs.Needs.{Needed, bytes_for, needs_of_listing, file_listing_needs}
use Rattle.listing_needs.specs.Told.{measured_bytes, needed_by}

-- by the group
module _ (s : List ℕ) (t : ℕ) where
  pub group-refused : {n : ℕ} → group_taken s t unlimited ≡ refused n → refused n ≡ needs_of_listing s t
  unfolding needs_of_listing
  group-refused e = rw e refl

  pub group-needed : {g : Group} → group_taken s t unlimited ≡ given g → needs_of_listing s t ≡ needed_by t g.entries g.patterns (length g.rows)
  unfolding needs_of_listing needed_by
  group-needed e = rw e refl

-- the measure with the limit of all outputs tells the bytes
measured-bytes : (t : ℕ) (s : List ℕ) (ps : List Pattern) (m : Option ℕ) → GivesLength t s ps output_limit m → measured_bytes m ≡ bytes_for (listing_of t s ps)
measured-bytes t s ps (Some n) g = omega (arith, g.0, g.1)
measured-bytes t s ps None g = omega (arith, g)

module _ (t : ℕ) (entries : List (List ℕ)) (ts : List ℕ) (tb : SampleTable) (whole : WholeIn ts tb (all_in tb)) (rows : ℕ) where
  abbrev patterns : List Pattern
  patterns = ahead_in ts tb (all_in tb)

  -- the check refuses
  pub check-refuses : {n : ℕ} → refused n ≡ first_refusal (meaning_of t entries) (used_in patterns) → refused n ≡ needed_by t entries patterns rows
  unfolding needed_by
  check-refuses e = rw (meanings-refused t entries ts tb whole e) refl

  -- or passes
  pub gives-needed : (s : List ℕ) → entries_of s ≡ given entries → {ms : List Meaning} → meanings t entries (samples_of patterns) ≡ given ms
      → (m : Option ℕ) → GivesLength t s patterns output_limit m → given (record { rows = rows; bytes = measured_bytes m }) ≡ needed_by t entries patterns rows
  unfolding needed_by
  gives-needed s read meant m g =
      let with : ℕ → Needed = λ n. record { rows = rows; bytes = n } in
      rw meant (ap (λ (n : ℕ). given (with n)) (measured-bytes t s patterns m g ∙ ap bytes_for (sym (listing-by t s read patterns meant))))

-- of a film
module _ (s : List ℕ) (n t : ℕ) where
  pub file_found : {b : Span} → stbl_at s n ≡ given b → file_listing_needs s n t ≡ needs_of_listing (bytes_at s b) t
  unfolding file_listing_needs
  file_found e = rw e refl

  pub file_refused : {m : ℕ} → stbl_at s n ≡ refused m → refused m ≡ file_listing_needs s n t
  unfolding file_listing_needs
  file_refused e = rw e refl
