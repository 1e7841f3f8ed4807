-- Runs joined to rows one by one: what the replay makes of their samples. Rows stand the last one first.
use mathlib.Core.Path.{◌≡◌, refl, sym, subst, ◌∙◌}
use mathlib.Core.Bool.{Bool, true, false}
use Prim.Native.Nat.{ℕ, ◌+◌, ◌≤◌, ◌<◌, min}
use native.Mathlib.Decide.{ℕ_discrete}
use native.Mathlib.Omega.{arith}
use borrow.Author.Tests.{eq-eqb, ne_eqb, eqb-false}
use mathlib.Core.List.{List, [], ◌∷◌, ◌++◌}
use lib.Dec.{eqb}
use lib.ListN.{length, replicate}
use Rattle.base_fields.specs.Answer.{Answer, given, none, refused, choose, and_then}
use Rattle.base_fields.proofs.Answers.{given_inj, given-first, refused-given}
use Rattle.base_ids.specs.Limits.{count_limit}
use Rattle.table_rows.specs.Row.{Row, expand}
use Rattle.table_replay.specs.Enter.{tail_of, enter_run}
use Rattle.table_replay.specs.Replay.{replay}
use Rattle.table_replay.specs.declared.enter.Tail.{Tail}
use Rattle.table_rows.proofs.Choice.{either}
use Rattle.table_replay.proofs.Replay.{replay_append}
use Rattle.table_replay.proofs.Longest.{SmallCounts}
use Rattle.table_replay.proofs.Entering.{with_run, Told, enter-told}
use Rattle.table_repaint.specs.Cut.{run, rows_with, rows_with_all, tail_run, tail_runs}

-- a run that is not empty
with-some : (out : List Row) (r : Row) → (r.count ≡ 0 → ⊥) → rows_with out r ≡ with_run out r.count r.index
unfolding rows_with
with-some [] r d = rw (ne_eqb r.count 0 d)
with-some (q ∷ qs) r d = rw (ne_eqb r.count 0 d) (by (eqb q.index r.index))
  where
    by : (s : Bool) → choose s (run (q.count + r.count) r.index ∷ qs) (r ∷ q ∷ qs)
        ≡ record { count = choose s (q.count + r.count) r.count; index = r.index } ∷ choose s qs (q ∷ qs)
    by true = refl
    by false = refl

with_none : (out : List Row) (r : Row) → r.count ≡ 0 → rows_with out r ≡ out
unfolding rows_with
with_none [] r e = rw (eq-eqb r.count 0 e)
with_none (q ∷ qs) r e = rw (eq-eqb r.count 0 e)

-- the tail of the rows after runs, or the replay's refusal
pub tail-runs : (room : ℕ) (out rs : List Row) → (tail_of out).count ≤ count_limit → SmallCounts rs
    → tail_runs room (tail_of out) rs ≡ and_then (replay room out (expand rs)) (λ last. given (tail_of last))
unfolding tail_runs tail_run expand replay
tail-runs room out [] h c = refl
tail-runs room out (r ∷ rs) h c =
    let n = r.count in
    let i = r.index in
    elim (ℕ_discrete n 0) [
      | yes e ↦ rw (eq-eqb n 0 e, e) (tail-runs room out rs h c.1)
      | no d ↦
          rw (ne_eqb n 0 d, replay_append room out (replicate n i) (expand rs))
          (by (λ next g. tail-runs room next rs g c.1) (enter_run room (tail_of out) n i) (enter-told room n i (omega arith) c.0 out h))
    ]
  where
    by : ((next : List Row) → (tail_of next).count ≤ count_limit
        → tail_runs room (tail_of next) rs ≡ and_then (replay room next (expand rs)) (λ last. given (tail_of last)))
        → (told : Answer Tail) → Told room out r.count r.index told
        → and_then told (λ next. tail_runs room next rs)
        ≡ and_then (and_then (replay room out (replicate r.count r.index)) (λ next. replay room next (expand rs))) (λ last. given (tail_of last))
    by rest (given t) e = rw (e.0, e.1) (rest (with_run out r.count r.index) (rw e.1 at e.2))
    by rest (refused n) e = rw e
    by rest none e = elim e [ ]

-- a run whose samples were entered was joined
run-joined : (room : ℕ) (out : List Row) (r : Row) {next : List Row} → (tail_of out).count ≤ count_limit → r.count ≤ count_limit
    → replay room out (replicate r.count r.index) ≡ given next
    → (rows_with out r ≡ next) × ((tail_of next).count ≤ count_limit)
unfolding replay
run-joined room out r {next} h g e =
    let n = r.count in
    let i = r.index in
    elim (ℕ_discrete n 0) [
      | yes z ↦
          let same : out ≡ next = given_inj (rw z at e) in
          (with_none out r z ∙ same, rw (← same) h)
      | no d ↦ by (with-some out r d) (enter_run room (tail_of out) n i) (enter-told room n i (omega arith) g out h)
    ]
  where
    by : rows_with out r ≡ with_run out r.count r.index → (told : Answer Tail)
        → Told room out r.count r.index told → (rows_with out r ≡ next) × ((tail_of next).count ≤ count_limit)
    by with (given t) f =
        let same : with_run out r.count r.index ≡ next = given_inj (sym f.0 ∙ e) in
        (with ∙ same, subst (λ (l : List Row). (tail_of l).count ≤ count_limit) same (rw f.1 at f.2))
    by with (refused m) f = absurd (refused-given (sym f ∙ e))
    by with none f = elim f [ ]

pub runs-joined : (room : ℕ) (out rs : List Row) {last : List Row} → (tail_of out).count ≤ count_limit → SmallCounts rs
    → replay room out (expand rs) ≡ given last → rows_with_all out rs ≡ last
unfolding rows_with_all expand replay
runs-joined room out [] h c e = given_inj e
runs-joined room out (r ∷ rs) h c e =
    let samples = replicate r.count r.index in
    let first = given-first (replay room out samples) (λ next. replay room next (expand rs)) (rw (replay_append room out samples (expand rs)) at e) in
    let one = run-joined room out r h c.0 first.1 in
    rw one.0 (runs-joined room first.0 rs one.1 c.1 first.2)

-- 1 for a number other than 0
unfoldable pub some : ℕ → ℕ
some n = min 1 n

-- how many rows there are after a run
pub with-grows : (out : List Row) (r : Row) → length out ≤ length (rows_with out r)
unfolding rows_with
with-grows [] r = omega arith
with-grows (q ∷ qs) r =
    let P : List Row → Type 0 = λ l. length (q ∷ qs) ≤ length l in
    either P (eqb r.count 0) (λ t. omega arith) (λ f. either P (eqb q.index r.index) (λ t. omega arith) (λ f. omega arith))

pub with-few : (out : List Row) (r : Row) → length (rows_with out r) ≤ length out + some r.count
unfolding rows_with some
with-few [] r =
    let P : List Row → Type 0 = λ l. length l ≤ length {A = Row} [] + some r.count in
    either P (eqb r.count 0) (λ t. omega arith) (λ f. let n = eqb-false r.count 0 f in omega arith)
with-few (q ∷ qs) r =
    let P : List Row → Type 0 = λ l. length l ≤ length (q ∷ qs) + some r.count in
    either P (eqb r.count 0) (λ t. omega arith)
    (λ f. let n = eqb-false r.count 0 f in either P (eqb q.index r.index) (λ t. omega arith) (λ g. omega arith))

pub all_grow : (out rs : List Row) → length out ≤ length (rows_with_all out rs)
unfolding rows_with_all
all_grow out [] = omega arith
all_grow out (r ∷ rs) = omega (arith, with-grows out r, all_grow (rows_with out r) rs)

pub all_append : (out rs ts : List Row) → rows_with_all out (rs ++ ts) ≡ rows_with_all (rows_with_all out rs) ts
unfolding rows_with_all
all_append out [] ts = refl
all_append out (r ∷ rs) ts = all_append (rows_with out r) rs ts

-- counts only grow
pub with-counts : (q : Row) (qs : List Row) (r : Row) → 0 < r.count → q.index ≡ r.index
    → SmallCounts (rows_with (q ∷ qs) r) → q.count + r.count ≤ count_limit
unfolding rows_with
with-counts q qs r h e c = (rw (ne_eqb r.count 0 (λ g. omega arith), eq-eqb q.index r.index e) at c).0

counts-back : (out : List Row) (r : Row) → SmallCounts (rows_with out r) → SmallCounts out
unfolding rows_with
counts-back [] r c = tt
counts-back (q ∷ qs) r c = by (eqb r.count 0) (eqb q.index r.index) c
  where
    by : (p s : Bool) → SmallCounts (choose p (q ∷ qs) (choose s (run (q.count + r.count) r.index ∷ qs) (r ∷ q ∷ qs))) → SmallCounts (q ∷ qs)
    by true s c = c
    by false true c = let h = c.0 in (omega arith, c.1)
    by false false c = c.1

pub all-counts : (out rs : List Row) → SmallCounts (rows_with_all out rs) → SmallCounts out
unfolding rows_with_all
all-counts out [] c = c
all-counts out (r ∷ rs) c = counts-back out r (all-counts (rows_with out r) rs c)
