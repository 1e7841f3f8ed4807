-- From what is read of a table and its descriptions to the listing: the check of the used entries, the length, and what is written.
use mathlib.Core.Path.{◌≡◌, refl, ap, sym, ◌∙◌}
use mathlib.Core.List.{List, [], ◌∷◌, ◌++◌, append-nil}
use Prim.Native.Nat.{ℕ, ◌*◌, ◌≤◌, ◌<◌}
use native.Mathlib.Omega.{arith}
use lib.ListN.{length, take, drop}
use lib.Seq.{take-append_seam}
use borrow.Author.Tests.{lt-ltb, le-ltb}
use Rattle.std.specs.Prelude.{Ok, Err}
use Rattle.base_fields.specs.Answer.{Answer, given, refused, in_front}
use Rattle.base_fields.specs.Refusal.{number}
use Rattle.base_fields.specs.declared.refusal.Refusal.{Refusal}
use Rattle.table_rows.specs.Row.{Row, Table, flat, rows_of, covered}
use Rattle.table_rows.specs.Pattern.{Pattern, samples_of, covered_by}
use Rattle.table_rows.proofs.Rows.{rows_of_append, flat-length}
use Rattle.table_views.specs.Used.{used_in, first_refusal}
use Rattle.table_runs.specs.Ahead.{all_in, ahead_in, WholeIn, LaidIn}
use Rattle.table_runs.specs.declared.SampleTable.{SampleTable}
use Rattle.table_records.specs.Lent.{table_from}
use Rattle.table_records.proofs.Lent.{Covers, covers-samples, lent-covers}
use Rattle.listing_theorem.specs.Meaning.{Meaning}
use Rattle.listing_theorem.specs.Samples.{meaning_of, meanings}
use Rattle.listing_theorem.specs.Listing.{listing}
use Rattle.listing_spec.specs.Table.{entries_of}
use Rattle.listing_spec.specs.Group.{Group, group_taken}
use Rattle.listing_spec.specs.Cue.{Cue, cue_listing}
use Rattle.listing_measure.specs.Measured.{AllMean, meanings_by, listing_of}
use Rattle.listing_measure.proofs.Meant.{all-mean}
use Rattle.listing_measure.proofs.Checked.{meanings-refused, listing-by}
use Rattle.listing_cue.specs.Told.{GivesCue}
use Rattle.listing_cue.specs.From.{listed_by}
use Rattle.listing_cue.specs.Rows.{RowsMean, row_listing}

-- an empty part in front
pub front-none : (l out : List ℕ) → length l ≡ 0 → l ++ out ≡ out
front-none [] out e = refl
front-none (x ∷ l) out e = absurd (omega arith)

-- a refusal leaves lent memory as it was
pub gives-refused : {answered : Answer Cue} (r : Refusal) (numbers out : List ℕ) → answered ≡ refused (number r) → GivesCue answered numbers numbers out out (Err r)
gives-refused r numbers out e = rw e (record { answer = refl; rows = refl; output = refl })

-- the listing of a body, by its group
pub group-listed : (s : List ℕ) (t room size : ℕ) {g : Group} → group_taken s t room ≡ given g → cue_listing s t room size ≡ listed_by t g.entries g.patterns g.rows size
unfolding cue_listing listed_by
group-listed s t room size e = rw e

module _ (t : ℕ) (entries : List (List ℕ)) (ts : List ℕ) (tb : SampleTable) (whole : WholeIn ts tb (all_in tb)) where
  abbrev pub patterns : List Pattern
  patterns = ahead_in ts tb (all_in tb)

  -- the check refuses
  pub check-refused : (rows : List Row) (size n : ℕ) → refused n ≡ first_refusal (meaning_of t entries) (used_in patterns) → listed_by t entries patterns rows size ≡ refused n
  unfolding listed_by
  check-refused rows size n e = rw (meanings-refused t entries ts tb whole e) refl

  module _ (s : List ℕ) (read : entries_of s ≡ given entries) {ms : List Meaning} (meant : meanings t entries (samples_of patterns) ≡ given ms) where
    pub passed-mean : AllMean t s patterns
    passed-mean = all-mean t s read patterns meant

    same-listing : listing t ms ≡ listing_of t s patterns
    same-listing = listing-by t s read patterns meant

    pub listed-long : (rows : List Row) (size : ℕ) → size < length (listing_of t s patterns) → listed_by t entries patterns rows size ≡ refused 54
    unfolding listed_by
    listed-long rows size h = rw (meant, same-listing) (simp (lt-ltb _ _ h))

    listed-given : (rows : List Row) (size : ℕ) → length (listing_of t s patterns) ≤ size
        → listed_by t entries patterns rows size ≡ given (record { bytes = listing_of t s patterns; rows = rows })
    unfolding listed_by
    listed-given rows size h = rw (meant, same-listing) (simp (le-ltb _ _ h))

    -- what is written
    pub gives-listed : (x : Table) (numbers numbers' out out' : List ℕ) (n k : ℕ) → n ≡ length (listing_of t s patterns) → n ≤ length out → length x.rows ≡ k
        → numbers' ≡ flat x.rows ++ drop (2 * length x.rows) numbers → out' ≡ in_front (listing_of t s patterns) out
        → GivesCue (listed_by t entries patterns x.rows (length out)) numbers numbers' out out' (Ok (record { listing = n; rows = k }))
    gives-listed x numbers numbers' out out' n k e l f g h =
        rw (listed-given x.rows (length out) (omega arith)) (record { answer = rw (e, f) refl; rows = g; output = h })

    -- the rows that were written tell the same samples
    module _ (laid : LaidIn ts tb) (room : ℕ) {x : Table} (from : table_from ts tb room ≡ given x) where
      covers : Covers x.rows patterns
      covers = lent-covers ts tb room laid from

      pub rows-mean : RowsMean t s x.rows
      rows-mean k l = rw (covers.index k) (passed-mean k (omega (arith, covers.cover)))

      pub rows-covered : covered_by patterns ≡ covered x.rows
      rows-covered = sym covers.cover

      pub row-listing : row_listing t s x.rows ≡ listing_of t s patterns
      row-listing = ap (λ l. listing t (meanings_by t s l)) (covers-samples covers)

-- the rows in front of a run of numbers
pub rows-front : (rows : List Row) (l : List ℕ) (k : ℕ) → length rows ≡ k → rows_of (take (2 * k) (flat rows ++ l)) ≡ rows
unfolding rows_of
rows-front rows l k e =
    let size : 2 * k ≡ length (flat rows) = rw (← e) (sym (flat-length rows)) in
    rw (size, take-append_seam (flat rows) l) (ap rows_of (sym (append-nil (flat rows))) ∙ rows_of_append rows [] ∙ append-nil rows)
