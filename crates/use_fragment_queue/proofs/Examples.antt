-- Small queues, each by computation: the definitions say what A12's words say.
use mathlib.Core.Path.{◌≡◌, refl}
use mathlib.Core.List.{List, [], ◌∷◌}
use Prim.Native.Nat.{ℕ}
use lib.ListN.{replicate}
use Rattle.base_fields.specs.Answer.{given, refused}
use Rattle.table_rows.specs.Row.{Row, covered}
use Rattle.use_fragment_queue.specs.Held.{Fragment, members_of, QueueCall, arrive, depart, kept, held_after, answers_held, fragment_at}
use Rattle.use_fragment_queue.specs.Ring.{first_slot, held_count, ring, call_queue}

abbrev row : ℕ → ℕ → Row
row n i = record { count = n; index = i }

abbrev fragment : ℕ → ℕ → Fragment
fragment c m = record { covered = c; members = m }

unfoldable pub queue_after : List ℕ → List QueueCall → List ℕ
queue_after q [] = q
queue_after q (c ∷ cs) = queue_after (kept (call_queue q c) q) cs

-- three come, the oldest leaves; an index with the mark only is other than 0
abbrev some-calls : List QueueCall
some-calls = depart ∷ arrive (row 3 1 ∷ row 2 0 ∷ []) ∷ arrive (row 0 9 ∷ []) ∷ arrive (row 4 0 ∷ row 1 2147483648 ∷ []) ∷ depart ∷ arrive (row 4294967295 1 ∷ row 1 0 ∷ []) ∷ []

pub some-held : held_after [] some-calls ≡ fragment 0 0 ∷ fragment 5 1 ∷ []
unfolding held_after covered members_of
some-held = refl

pub some-answers : answers_held [] some-calls ≡ refused 72 ∷ given tt ∷ given tt ∷ given tt ∷ given tt ∷ refused 28 ∷ []
unfolding answers_held covered members_of
some-answers = refl

-- the same by the numbers of a queue, over slots that hold anything
pub some-ring : let q = queue_after (0 ∷ 0 ∷ 0 ∷ 0 ∷ replicate 128 7) some-calls in ring q (first_slot q) (held_count q) ≡ fragment 0 0 ∷ fragment 5 1 ∷ []
unfolding ring queue_after covered members_of
some-ring = refl

-- a lookup passes over a fragment of 0 samples
pub over-empty : fragment_at (fragment 3 3 ∷ fragment 0 0 ∷ fragment 5 1 ∷ []) 3 ≡ given (record { fragment = 2; sample = 0 })
unfolding fragment_at
over-empty = refl

pub not_covered : fragment_at (fragment 3 3 ∷ fragment 0 0 ∷ fragment 5 1 ∷ []) 8 ≡ refused 73
unfolding fragment_at
not_covered = refl

-- a full queue: 71, but 28 before it
pub when_full : answers_held (replicate 64 (fragment 1 1)) (arrive [] ∷ arrive (row 4294967295 1 ∷ row 1 0 ∷ []) ∷ depart ∷ arrive [] ∷ arrive [] ∷ []) ≡ refused 71 ∷ refused 28 ∷ given tt ∷ given tt ∷ refused 71 ∷ []
unfolding answers_held covered members_of
when_full = refl
