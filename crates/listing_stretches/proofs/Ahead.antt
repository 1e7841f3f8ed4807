-- A run entered: it joins the stretch in hand, or that one is closed and another begins.
use mathlib.Core.Path.{◌≡◌, refl}
use mathlib.Core.List.{List, [], ◌++◌, append_assoc, append-nil}
use Prim.Native.Nat.{ℕ, ◌+◌, ◌<◌}
use lib.ListN.{length, replicate, replicate-append-replicate}
use Rattle.listing_theorem.specs.Meaning.{Meaning}
use Rattle.listing_theorem.specs.Stretches.{stretches}
use Rattle.listing_theorem.specs.Groups.{groups}
use Rattle.listing_theorem.specs.Listing.{each, stretch_bytes, type_bytes, listing}
use Rattle.listing_theorem.proofs.Stretches.{run-differs, run-last}
use Rattle.listing_stretches.specs.Ahead.{bytes_ahead}

-- n more samples of the same meaning
pub ahead-join : (c n : ℕ) (m : Meaning) (rest : List Meaning) → bytes_ahead c m (replicate n m ++ rest) ≡ bytes_ahead (c + n) m rest
unfolding bytes_ahead
ahead-join c n m rest = rw (← append_assoc, replicate-append-replicate c n m)

-- the first samples
pub ahead-first : (n : ℕ) (k m : Meaning) (rest : List Meaning) → bytes_ahead 0 k (replicate n m ++ rest) ≡ bytes_ahead n m rest
unfolding bytes_ahead
ahead-first n k m rest = refl

-- samples of another meaning
pub ahead-close : (c n : ℕ) (k m : Meaning) (rest : List Meaning) → 0 < c → 0 < n → (k ≡ m → ⊥)
    → bytes_ahead c k (replicate n m ++ rest) ≡ stretch_bytes (record { samples = c; meaning = k }) ++ bytes_ahead n m rest
unfolding bytes_ahead each
ahead-close c n k m rest h l d = rw (run-differs k m c n rest h l d)

-- no samples are left
pub ahead-last : (c : ℕ) (m : Meaning) → 0 < c → bytes_ahead c m [] ≡ stretch_bytes (record { samples = c; meaning = m })
unfolding bytes_ahead each
ahead-last c m h = rw (append-nil, run-last m c h) (append-nil _)

pub ahead_none : (m : Meaning) → bytes_ahead 0 m [] ≡ []
unfolding bytes_ahead each stretches
ahead_none m = refl

-- at the start nothing is in hand
pub listing-ahead : (t : ℕ) (m : Meaning) (ms : List Meaning) → listing t ms ≡ type_bytes t ++ groups (length ms) ++ bytes_ahead 0 m ms
unfolding listing bytes_ahead
listing-ahead t m ms = refl
