-- Landmarks among the entries of a payload: sixteen places cut the way to an entry that is found by walking.
use Rattle.std.specs.Prelude.{ℕ, ◌+◌, ◌*◌, ◌/◌, ◌<◌, ◌≡◌, List, get_or}
use Rattle.base_fields.specs.Answer.{given}
use Rattle.group_sgpd.specs.Sgpd.{entry_count_of, entry_count_place}
use Rattle.group_sgpd.specs.Head.{after}

-- how many entries stand from one landmark to the next: so many that sixteen of them are more than all
abbrev pub marks_apart : ℕ → ℕ
marks_apart count = count / 16 + 1

-- landmark k, counted from 0, is the place behind k * marksApart entries; it says nothing where there are no more entries than that
abbrev pub Marks : List ℕ → List ℕ → Type 0
Marks s l = (k : ℕ) → k * marks_apart (entry_count_of s) < entry_count_of s → after (k * marks_apart (entry_count_of s)) s (entry_count_place s + 4) ≡ given (get_or l k 0)
