-- Rows counted one by one: what was counted, and what the rows from row k on add to it.
use mathlib.Core.Path.{◌≡◌, refl}
use Prim.Native.Nat.{ℕ, ◌+◌, ◌-◌, ◌<◌, ◌≤◌}
use native.Mathlib.Omega.{arith}
use borrow.Author.Tests.{lt-ltb, le-ltb}
use mathlib.Core.List.{List}
use lib.Dec.{eqb}
use lib.ListN.{length, get_or, drop}
use lib.Seq.{drop-length}
use Rattle.base_fields.specs.Answer.{given, refused, choose}
use Rattle.table_rows.specs.Row.{Row, no_row, covered}
use Rattle.table_rows.proofs.RowAt.{from_row, covered-from, covered-past}
use Rattle.use_fragment_queue.specs.Held.{members_of, cover_limit}
use Rattle.use_fragment_queue.specs.Queued.{counts}
use Rattle.use_fragment_queue.proofs.Held.{part}

pub record Counting (rs : List Row) (c m k : ℕ) : Type 0 where
  pub within : c ≤ cover_limit
  pub among : m ≤ c
  pub covers : covered rs ≡ c + covered (drop k rs)
  pub has : members_of rs ≡ m + members_of (drop k rs)

pub counting-start : (rs : List Row) → Counting rs 0 0 0
counting-start rs = record { within = omega arith; among = omega arith; covers = omega arith; has = omega arith }

module _ (rs : List Row) (c m k : ℕ) (so : Counting rs c m k) where
  module _ (h : k < length rs) where
    members-from : members_of (drop k rs) ≡ choose (eqb (get_or rs k no_row).index 0) 0 (get_or rs k no_row).count + members_of (drop (k + 1) rs)
    unfolding members_of
    members-from = rw (from_row rs k h) refl

    pub counting-over : cover_limit - c < (get_or rs k no_row).count → refused 28 ≡ counts rs
    counting-over b = rw (lt-ltb cover_limit (covered rs) (omega (arith, so.within, so.covers, covered-from rs k h))) refl

    pub counting-next : (get_or rs k no_row).count ≤ cover_limit - c
        → Counting rs (c + (get_or rs k no_row).count) (m + choose (eqb (get_or rs k no_row).index 0) 0 (get_or rs k no_row).count) (k + 1)
    counting-next b = record {
      within = omega (arith, so.within);
      among = omega (arith, so.among, part (eqb (get_or rs k no_row).index 0) (get_or rs k no_row).count);
      covers = omega (arith, so.covers, covered-from rs k h);
      has = omega (arith, so.has, members-from);
    }

  module _ (h : k ≡ length rs) where
    members-past : members_of (drop k rs) ≡ 0
    unfolding members_of
    members-past = rw (h, drop-length rs) refl

    pub counting-end : given (record { covered = c; members = m }) ≡ counts rs
    counting-end =
        let all : covered rs ≡ c = omega (arith, so.covers, covered-past rs k h) in
        let members : members_of rs ≡ m = omega (arith, so.has, members-past) in
        rw (all, members, le-ltb cover_limit c so.within) refl
