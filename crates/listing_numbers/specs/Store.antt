-- Bytes stored one after the other into an output.
use Rattle.std.specs.Prelude.{ℕ, suc, ◌+◌, ◌≡◌, List, [], ◌∷◌, length, set}

-- from place p on; a byte past the end of the output is not stored
unfoldable pub stored : List ℕ → ℕ → List ℕ → List ℕ
stored [] p out = out
stored (b ∷ bytes) p out = stored bytes (suc p) (set out p b)

-- what a writer leaves and tells: the bytes from place p on, every other byte as it was, and the place behind them
pub record Puts (bytes : List ℕ) (p : ℕ) (before after : List ℕ) (behind : ℕ) : Type 0 where
  pub output : after ≡ stored bytes p before
  pub next : behind ≡ p + length bytes

-- no place of a lent output lies past this one, nor the place behind two numbers more
abbrev pub place_limit : ℕ
place_limit = 9223372036854775828

-- one more than the largest place that is told
abbrev pub place_bound : ℕ
place_bound = 18446744073709551616
