-- The loop's invariant: `Writing`, what is stored and what is still to come; the rows not passed are those from record k on.
use mathlib.Core.Path.{◌≡◌}
use Prim.Native.Nat.{◌-◌, ◌≤◌}
use lib.ListN.{length, drop}
use Rattle.table_rows.specs.Row.{rows_of, records_in}
use Rattle.listing_cue.proofs.Writing.{Writing}
use Rattle.listing_cue.proofs.write.write_listing.Given as goal

abbrev pub invariant-loop-k : goal.invariant-loop-k
invariant-loop-k l =
    Writing l.grouping_type l.s (rows_of l.rows) l.initial.progress l.initial.out (drop l.k (rows_of l.rows)) l.memory l.progress l.out × (l.k ≤ l.records) × (l.records ≡ records_in l.rows) × (length l.out ≡ length l.initial.out)

abbrev pub decreases-loop-k : goal.decreases-loop-k
decreases-loop-k l = l.records - l.k
