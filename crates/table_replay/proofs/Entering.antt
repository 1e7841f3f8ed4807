-- What a run of samples of one index does to the rows.
use mathlib.Core.Path.{◌≡◌, refl}
use mathlib.Core.Bool.{Bool, true, false}
use Prim.Native.Nat.{ℕ, ◌+◌, ◌≤◌, ◌<◌}
use native.Mathlib.Numerals.{add-one}
use native.Mathlib.Omega.{arith}
use borrow.Author.Tests.{lt-ltb, le-ltb, eq-eqb, ne_eqb, lt-leb, ltb-true, ltb-false, leb-true, leb-false, eqb-true, eqb-false}
use mathlib.Core.List.{List, [], ◌∷◌}
use lib.Dec.{ltb, leb, eqb}
use lib.ListN.{length, replicate}
use Rattle.base_fields.specs.Answer.{Answer, given, none, refused, choose}
use Rattle.table_rows.specs.Row.{Row}
use Rattle.base_ids.specs.Limits.{count_limit}
use Rattle.table_replay.specs.Replay.{replay}
use Rattle.table_rows.proofs.Choice.{either}
use Rattle.table_replay.proofs.Replay.{Begins, replay-join, replay-over, replay-begin, replay_no_room}
use Rattle.table_replay.specs.Enter.{tail_of, enter_run, join_run, begin_run}
use Rattle.table_replay.specs.declared.enter.Tail.{Tail}

-- the rows below the last one, once n samples of index i are entered
abbrev pub below : List Row → ℕ → List Row
below [] i = []
below (r ∷ rs) i = choose (eqb r.index i) rs (r ∷ rs)

-- the last row's count then
abbrev pub grown : List Row → ℕ → ℕ → ℕ
grown [] n i = n
grown (r ∷ rs) n i = choose (eqb r.index i) (r.count + n) n

abbrev pub with_run : List Row → ℕ → ℕ → List Row
with_run rows n i = record { count = grown rows n i; index = i } ∷ below rows i

-- an entered run, by its answer
abbrev pub Told : ℕ → List Row → ℕ → ℕ → Answer Tail → Type 0
Told room rows n i (given t) = (replay room rows (replicate n i) ≡ given (with_run rows n i)) × (t ≡ tail_of (with_run rows n i)) × (t.count ≤ count_limit)
Told room rows n i none = ⊥
Told room rows n i (refused code) = replay room rows (replicate n i) ≡ refused code

module _ (room n i : ℕ) (pos : 0 < n) (fits : n ≤ count_limit) where
  -- a new row
  begun-told : (rows : List Row) → Begins rows i → below rows i ≡ rows → grown rows n i ≡ n → (tail_of rows).rows ≡ length rows → Told room rows n i (begin_run room (tail_of rows) n i)
  begun-told rows b u g e =
      either (Told room rows n i) (leb room (tail_of rows).rows)
      (λ t. let h = leb-true room (tail_of rows).rows t in replay_no_room room rows i n b (omega arith) pos)
      (λ f.
      let h = leb-false room (tail_of rows).rows f in (
        rw (u, g) (replay-begin room rows i n b (omega arith) pos fits),
        rw (u, g, e, add-one),
        fits,
      ))

  -- the last row
  joined-told : (r : Row) (rs : List Row) → r.index ≡ i → r.count ≤ count_limit → Told room (r ∷ rs) n i (join_run (tail_of (r ∷ rs)) n i)
  joined-told r rs e l =
      let b = eq-eqb r.index i e in
      either (Told room (r ∷ rs) n i) (ltb count_limit (r.count + n))
      (λ t. replay-over room r rs n e l (ltb-true count_limit (r.count + n) t))
      (λ f.
      let h = ltb-false count_limit (r.count + n) f in (
        rw b (replay-join room r rs n e h),
        rw b,
        h,
      ))

  pub enter-told : (rows : List Row) → (tail_of rows).count ≤ count_limit → Told room rows n i (enter_run room (tail_of rows) n i)
  enter-told [] l = begun-told [] tt refl refl refl
  enter-told (r ∷ rs) l =
      let h : 0 < length (r ∷ rs) = omega arith in
      rw (lt-ltb 0 (length (r ∷ rs)) h)
      (either (Told room (r ∷ rs) n i) (eqb r.index i)
      (λ t. joined-told r rs (eqb-true r.index i t) l)
      (λ f. begun-told (r ∷ rs) (eqb-false r.index i f) (rw f) (rw f) refl))

pub tail-length : (rows : List Row) → (tail_of rows).rows ≡ length rows
tail-length [] = refl
tail-length (r ∷ rs) = refl

-- one sample, by its tests
pub single-joins : (room : ℕ) (t : Tail) (i : ℕ) → 0 < t.rows → t.index ≡ i → t.count + 1 ≤ count_limit → enter_run room t 1 i ≡ given (record { rows = t.rows; count = t.count + 1; index = i })
single-joins room t i h e l = simp (lt-ltb _ _ h, eq-eqb _ _ e, le-ltb _ _ l)

pub single-begins : (room : ℕ) (t : Tail) (i : ℕ) → (t.index ≡ i → ⊥) → t.rows < room → enter_run room t 1 i ≡ given (record { rows = t.rows + 1; count = 1; index = i })
single-begins room t i d h = rw (ne_eqb _ _ d, lt-leb _ _ h) (by (ltb 0 t.rows))
  where
    by : (b : Bool) {x : Answer Tail} → choose b x x ≡ x
    by true = refl
    by false = refl
