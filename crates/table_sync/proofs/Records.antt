-- One law for both tables: record k, below the count, is the number in the w bytes from place p + w * k (p 8 and w 4 in an stss, p 4 and w 1 in an sdtp).
use mathlib.Core.Path.{◌≡◌, refl, ap}
use mathlib.Core.List.{List}
use Prim.Native.Nat.{ℕ, zero, suc, ◌+◌, ◌*◌, ◌<◌}
use native.Mathlib.Nat.{mul-zero, mul-suc}
use native.Mathlib.Omega.{arith}
use lib.ListN.{length, get_or}
use Rattle.base_fields.specs.Number.{be_at}
use Rattle.table_sync.specs.Sync.{records_from}

module _ (w : ℕ) (s : List ℕ) where
  pub record_count : (n p : ℕ) → length (records_from n w s p) ≡ n
  unfolding records_from
  record_count zero p = refl
  record_count (suc n) p = ap suc (record_count n (p + w))

  pub record_at : (n p k : ℕ) → k < n → get_or (records_from n w s p) k 0 ≡ be_at w s (p + w * k)
  unfolding records_from
  record_at zero p k h = absurd (omega arith)
  record_at (suc n) p zero h = let e : p + w * 0 ≡ p = omega (arith, mul-zero w) in rw e refl
  record_at (suc n) p (suc k) h = let e : p + w * suc k ≡ p + w + w * k = omega (arith, mul-suc w k) in rw e (record_at n (p + w) k (omega arith))
