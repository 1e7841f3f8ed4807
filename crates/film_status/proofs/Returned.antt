-- What a function of the C interface returns and stores, from what it was answered with.
use mathlib.Core.Path.{◌≡◌, refl}
use mathlib.Core.List.{List}
use Rattle.base_fields.specs.Answer.{Answer}
use Rattle.film_status.specs.Status.{status_of, stored, Returns}

-- y tells the answer x, and y is r: the status and the numbers are those of r
pub returned : {E A N : Type 0} (told : E → Answer A) {x : Answer A} {y r : E} → told y ≡ x → y ≡ r
    → {numbers : A → List N} {before : List N} → Returns x numbers before (stored numbers (told r) before) (status_of (told r))
returned told e p = rw (← e, p) (record { status = refl; out = refl })
