-- A preview and an edit of a copy answer the same, for all inputs.
use Rattle.std.specs.Prelude.{Result}
use mathlib.Core.Path.{◌≡◌, sym, ◌∙◌}
use Prim.Native.Nat.{ℕ}
use mathlib.Core.List.{List}
use Rattle.base_fields.specs.Refusal.{told_value}
use Rattle.base_fields.specs.declared.refusal.Refusal.{Refusal}
use Rattle.table_repaint.specs.Repaint.{repainted, rows_counted}
use Rattle.table_repaint.specs.Repainted.{GivesRepaint}

-- from their contracts: p is what the preview gives on a run, r what the edit gives on a copy, whatever it leaves there
pub preview_agrees : (l copy after : List ℕ) (stated a b i : ℕ) (p r : Result ℕ Refusal) → copy ≡ l → told_value p ≡ rows_counted (repainted l stated a b i)
    → GivesRepaint (repainted copy stated a b i) copy after r → told_value p ≡ told_value r
preview_agrees l copy after stated a b i p r e told gives = told ∙ sym (rw e at gives.answer)
