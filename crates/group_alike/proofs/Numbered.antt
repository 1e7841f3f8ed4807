-- A likeness refuses with the decoders' numbers: none is 0 or 255.
use mathlib.Core.List.{List}
use Prim.Native.Nat.{ℕ}
use borrow.Author.Rules.{rules}
use Rattle.base_fields.proofs.Numbered.{Number, Numbered, by-and_then, numbered_within}
use Rattle.group_entries.specs.Layout.{decode}
use Rattle.group_entries.proofs.Numbered.{decode-by}
use Rattle.group_alike.specs.Alike.{alike}

decoded : (t : ℕ) (s : List ℕ) → Numbered (decode t s)
decoded t s = decode-by Number Unit s (search rules) t

pub alike-numbered : (t : ℕ) (a b : List ℕ) → Numbered (alike t a b)
unfolding alike
alike-numbered t a b =
    numbered_within a _
    (numbered_within b _ (by-and_then Number Unit (decode t a) _ (decoded t a) (λ x e. by-and_then Number Unit (decode t b) _ (decoded t b) (λ y f. tt))))
