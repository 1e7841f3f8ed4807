-- What one step of the pass does, by case: for `put_run` and `store_last`.
use mathlib.Core.Path.{◌≡◌, ap}
use Prim.Native.Nat.{ℕ, ◌+◌, ◌-◌, ◌<◌}
use native.Mathlib.Omega.{arith}
use borrow.Author.Tests.{eq-eqb, ne_eqb}
use Rattle.table_rows.specs.Row.{Row, put_row}
use Rattle.table_repaint.specs.Pass.{Work, work_in, with_last, joined_work, begun_work, put_run}

module _ (w : Work) where
  pub stored-none : w.tail.rows ≡ 0 → with_last w ≡ w.numbers
  unfolding with_last
  stored-none e = rw (eq-eqb w.tail.rows 0 e)

  pub stored_some : 0 < w.tail.rows → with_last w ≡ put_row (w.tail.rows - 1) w.tail.count w.tail.index w.numbers
  unfolding with_last
  stored_some h = rw (ne_eqb w.tail.rows 0 (λ e. omega arith))

  module _ (r : Row) where
    pub put-empty : r.count ≡ 0 → put_run w r ≡ w
    unfolding put_run
    put-empty e = rw (eq-eqb r.count 0 e)

    module _ (some : 0 < r.count) where
      pub put_first : w.tail.rows ≡ 0 → put_run w r ≡ work_in w.numbers (record { rows = 1; count = r.count; index = r.index })
      unfolding put_run
      put_first e =
          rw (ne_eqb r.count 0 (λ g. omega arith), eq-eqb w.tail.rows 0 e, stored-none e)
          (ap (λ (n : ℕ). work_in w.numbers (record { rows = n + 1; count = r.count; index = r.index })) e)

      pub put_same : 0 < w.tail.rows → w.tail.index ≡ r.index → put_run w r ≡ joined_work w r
      unfolding put_run
      put_same h e = rw (ne_eqb r.count 0 (λ g. omega arith), ne_eqb w.tail.rows 0 (λ g. omega arith), eq-eqb w.tail.index r.index e)

      pub put_other : 0 < w.tail.rows → (w.tail.index ≡ r.index → ⊥) → put_run w r ≡ begun_work w r
      unfolding put_run
      put_other h d = rw (ne_eqb r.count 0 (λ g. omega arith), ne_eqb w.tail.rows 0 (λ g. omega arith), ne_eqb w.tail.index r.index d)
