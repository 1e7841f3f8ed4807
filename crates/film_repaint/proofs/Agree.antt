-- A preview and an edit of a copy return the same status and leave the same number in `out`, for all inputs.
use mathlib.Core.Path.{◌≡◌, sym, ◌∙◌}
use Prim.Native.Nat.{ℕ}
use mathlib.Core.List.{List}
use Rattle.table_repaint.specs.Repaint.{repainted, rows_counted}
use Rattle.film_status.specs.Status.{Returns, one_number}
use Rattle.film_repaint.specs.Repaint.{Repaints}

-- from their contracts: p and `seen` are what the preview of a run returns and leaves in `out`, r and `done` what the edit of a copy does
pub preview_agrees : (stated a b i : ℕ) {l copy after out seen done : List ℕ} {p r : ℕ} → copy ≡ l
    → Returns (rows_counted (repainted l stated a b i)) one_number out seen p → Repaints (repainted copy stated a b i) copy after out done r
    → (p ≡ r) × (seen ≡ done)
preview_agrees stated a b i e told gives =
    let edit = rw e at gives.returned in
    (told.status ∙ sym edit.status, told.out ∙ sym edit.out)
