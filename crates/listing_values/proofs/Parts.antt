-- Laws of a value's parts.
use mathlib.Core.Path.{◌≡◌}
use mathlib.Core.List.{List, ◌++◌}
use Prim.Native.Nat.{ℕ, suc, ◌+◌, ◌/◌, ◌^◌, ◌<◌, ◌≤◌}
use native.Mathlib.Omega.{arith}
use native.Mathlib.Decide.{dec_lt}
use borrow.Author.Tests.{le-leb, lt-leb}
use lib.ListN.{length, length-append}
use Rattle.group_entries.specs.Decoded.{top_bit}
use Rattle.group_entries.specs.declared.EntryLayout.{EntryLayout}
use Rattle.group_entries.proofs.Values.{value_of, Sized, valued}
use Rattle.listing_theorem.specs.Groups.{groups}
use Rattle.listing_theorem.proofs.Groups.{groups-length}
use Rattle.listing_theorem.specs.Listing.{flag, value_bytes}
use Rattle.listing_numbers.specs.Store.{Puts}
use Rattle.listing_numbers.proofs.Stores.{puts_then, number-near}
use Rattle.listing_values.specs.Value.{PutsValue, value_limit}
use Rattle.listing_values.specs.Parts.{Ready, PutsWithin}

-- what an entry that decodes tells of its length
pub ready-sized : {l : EntryLayout} {s : List ℕ} {p : ℕ} → Ready l s p → Sized l s
ready-sized {l} {s} r = (valued l s r.decodes.1).1

module _ {p : ℕ} {before after : List ℕ} {next : ℕ} where
  -- the value is the only one that the entry decodes to
  pub value-put : (l : EntryLayout) (s : List ℕ) {room : ℕ} → PutsWithin room (value_bytes (value_of l s)) p before after next → room ≤ value_limit
      → PutsValue l s p before after next
  value-put l s x h = record { puts = λ v e. rw (valued l s e).0 x.puts; near = omega arith }

  -- a number below 128 to the k + 1, as another name has it
  pub number-within : (k : ℕ) {m n : ℕ} → m ≡ n → m < 128 ^ suc k → Puts (groups m) p before after next → PutsWithin (suc k) (groups n) p before after next
  number-within k {m} e h x = record { puts = rw e at x; near = number-near k m x h }

  pub two-within : (j k : ℕ) {a b m n : ℕ} → a ≡ m → b ≡ n → a < 128 ^ suc j → b < 128 ^ suc k → Puts (groups a ++ groups b) p before after next
      → PutsWithin (suc j + suc k) (groups m ++ groups n) p before after next
  two-within j k {a} {b} e f h g x =
      record { puts = rw (e, f) at x; near = omega (arith, length-append (groups a) (groups b), groups-length j a h, groups-length k b g) }

  pub bytes-within : {bytes : List ℕ} → Puts bytes p before after next → PutsWithin (length bytes) bytes p before after next
  bytes-within x = record { puts = x; near = omega arith }

  pub widen : {m n : ℕ} {bytes : List ℕ} → m ≤ n → PutsWithin m bytes p before after next → PutsWithin n bytes p before after next
  widen h x = record { puts = x.puts; near = omega arith }

pub within_then : {m n : ℕ} {a b : List ℕ} {p : ℕ} {o1 o2 o3 : List ℕ} {q r : ℕ} → PutsWithin m a p o1 o2 q → PutsWithin n b q o2 o3 r
    → PutsWithin (m + n) (a ++ b) p o1 o3 r
within_then x y = record { puts = puts_then x.puts y.puts; near = omega arith }

-- the top bit of a byte that was read, as a number
pub flag-number : {b x : ℕ} → x ≡ b → x < 256 → x / 128 ≡ flag (top_bit b)
flag-number {b} {x} e h =
    elim (dec_lt b 128) [
      | yes l ↦ rw (lt-leb 128 b l) (omega arith)
      | no l ↦ let g : 128 ≤ b = omega arith in rw (le-leb 128 b g) (omega arith)
    ]
