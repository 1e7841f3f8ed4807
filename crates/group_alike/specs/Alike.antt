-- Whether two entries of one grouping type decode to the same value.
use Rattle.std.specs.Prelude.{ℕ, Bool, List}
use Rattle.base_fields.specs.Answer.{Answer, given, and_then, within}
use Rattle.group_entries.specs.Layout.{decode}
use Rattle.group_entries.specs.Same.{same_decoded, is_same}

-- 55 of either entry first, then the first entry's refusals, then the second's; then whether the two values are the same
unfoldable pub alike : ℕ → List ℕ → List ℕ → Answer Bool
alike t a b = within a (within b (and_then (decode t a) (λ x. and_then (decode t b) (λ y. given (is_same (same_decoded x y))))))
