-- The replay (document 01, part 4): what runs of one index do to the rows, and that the rows tell each sample's index.
use mathlib.Core.Path.{◌≡◌, refl, sym, ◌∙◌}
use Prim.Native.Nat.{ℕ, zero, suc, ◌+◌, ◌≤◌, ◌<◌}
use native.Mathlib.Nat.{add-zero}
use native.Mathlib.Decide.{dec_lt, ℕ_discrete}
use native.Mathlib.Omega.{arith}
use borrow.Author.Tests.{eq-eqb, ne_eqb, le-leb, lt-leb, eqb-true, leb-false}
use mathlib.Core.List.{List, [], ◌∷◌, ◌++◌, reverse, append-nil, append_assoc, reverse-cons}
use lib.Dec.{leb, eqb}
use lib.ListN.{length, replicate, replicate-append-replicate}
use Rattle.base_fields.specs.Answer.{Answer, given, none, refused, and_then}
use Rattle.base_fields.proofs.Answers.{and_then_assoc}
use Rattle.table_rows.specs.Row.{Row, expand, covered, index_at}
use Rattle.table_rows.specs.Pattern.{Pattern, samples_of, covered_by, index_of}
use Rattle.base_ids.specs.Limits.{count_limit}
use Rattle.table_replay.specs.Replay.{enter, replay}
use Rattle.table_rows.proofs.Choice.{either}
use Rattle.table_rows.proofs.Samples.{index_at-expand, covered-expand, expand_append, covered_by-samples, index_of-samples}

pub replay_append : (room : ℕ) (rows : List Row) (xs ys : List ℕ) → replay room rows (xs ++ ys) ≡ and_then (replay room rows xs) (λ r. replay room r ys)
unfolding replay
replay_append room rows [] ys = refl
replay_append room rows (i ∷ xs) ys = (λ k. and_then (enter room rows i) (λ r. replay_append room r xs ys k)) ∙ sym (and_then_assoc (enter room rows i) _ _)

-- a sample of index i begins a new row: there is no row yet, or the last one has another index
abbrev pub Begins : List Row → ℕ → Type 0
Begins [] i = Unit
Begins (r ∷ rs) i = r.index ≡ i → ⊥

-- one sample
pub enter-join : (room : ℕ) (r : Row) (rs : List Row) {i : ℕ} → r.index ≡ i → r.count < count_limit → enter room (r ∷ rs) i ≡ given (record { count = r.count + 1; index = i } ∷ rs)
unfolding enter
enter-join room r rs e h = simp (eq-eqb _ _ e, lt-leb _ _ h)

pub enter-over : (room : ℕ) (r : Row) (rs : List Row) {i : ℕ} → r.index ≡ i → count_limit ≤ r.count → enter room (r ∷ rs) i ≡ refused 28
unfolding enter
enter-over room r rs e h = simp (eq-eqb _ _ e, le-leb _ _ h)

pub enter-begin : (room : ℕ) (rows : List Row) (i : ℕ) → Begins rows i → length rows < room → enter room rows i ≡ given (record { count = 1; index = i } ∷ rows)
unfolding enter
enter-begin room [] i b h = simp (lt-leb _ _ h)
enter-begin room (r ∷ rs) i b h = simp (ne_eqb _ _ b, lt-leb _ _ h)

pub enter_no_room : (room : ℕ) (rows : List Row) (i : ℕ) → Begins rows i → room ≤ length rows → enter room rows i ≡ refused 29
unfolding enter
enter_no_room room [] i b h = simp (le-leb _ _ h)
enter_no_room room (r ∷ rs) i b h = simp (ne_eqb _ _ b, le-leb _ _ h)

-- a run of n samples of index i
pub replay-join : (room : ℕ) (r : Row) (rs : List Row) (n : ℕ) {i : ℕ} → r.index ≡ i → r.count + n ≤ count_limit → replay room (r ∷ rs) (replicate n i) ≡ given (record { count = r.count + n; index = i } ∷ rs)
unfolding replay
replay-join room r rs zero e h = rw (add-zero, ← e)
replay-join room r rs (suc n) {i} e h =
    let s : r.count + suc n ≡ r.count + 1 + n = omega arith in
    rw (enter-join room r rs e (omega arith), s) (replay-join room (record { count = r.count + 1; index = i }) rs n refl (omega arith))

pub replay-over : (room : ℕ) (r : Row) (rs : List Row) (n : ℕ) {i : ℕ} → r.index ≡ i → r.count ≤ count_limit → count_limit < r.count + n → replay room (r ∷ rs) (replicate n i) ≡ refused 28
unfolding replay
replay-over room r rs zero e h o = absurd (omega arith)
replay-over room r rs (suc n) {i} e h o =
    elim (dec_lt r.count count_limit) [
      | yes l ↦ rw (enter-join room r rs e l) (replay-over room (record { count = r.count + 1; index = i }) rs n refl (omega arith) (omega arith))
      | no l ↦ rw (enter-over room r rs e (omega arith))
    ]

pub replay-begin : (room : ℕ) (rows : List Row) (i n : ℕ) → Begins rows i → length rows < room → 0 < n → n ≤ count_limit → replay room rows (replicate n i) ≡ given (record { count = n; index = i } ∷ rows)
unfolding replay
replay-begin room rows i zero b h p l = absurd (omega arith)
replay-begin room rows i (suc n) b h p l =
    let s : suc n ≡ 1 + n = omega arith in
    rw (enter-begin room rows i b h) (replay-join room (record { count = 1; index = i }) rows n refl (omega arith) ∙ rw s refl)

pub replay_no_room : (room : ℕ) (rows : List Row) (i n : ℕ) → Begins rows i → room ≤ length rows → 0 < n → replay room rows (replicate n i) ≡ refused 29
unfolding replay
replay_no_room room rows i zero b h p = absurd (omega arith)
replay_no_room room rows i (suc n) b h p = rw (enter_no_room room rows i b h)

-- the count of the last row
abbrev last_count : List Row → ℕ
last_count [] = 0
last_count (r ∷ rs) = r.count

-- n samples more can neither pass a count's limit nor the room
pub record Fits (room : ℕ) (rows : List Row) (n : ℕ) : Type 0 where
  pub counts : last_count rows + n ≤ count_limit
  pub records : length rows + n ≤ room

enter-fits : (room : ℕ) (rows : List Row) (i n : ℕ) → Fits room rows (suc n) → (next : List Row) × (enter room rows i ≡ given next) × Fits room next n
enter-fits room [] i n f = (record { count = 1; index = i } ∷ [], enter-begin room [] i tt (omega (arith, f.records)), record { counts = omega (arith, f.counts); records = omega (arith, f.records) })
enter-fits room (r ∷ rs) i n f =
    elim (ℕ_discrete r.index i) [
      | yes e ↦ (record { count = r.count + 1; index = i } ∷ rs, enter-join room r rs e (omega (arith, f.counts)), record { counts = omega (arith, f.counts); records = omega (arith, f.records) })
      | no e ↦ (record { count = 1; index = i } ∷ r ∷ rs, enter-begin room (r ∷ rs) i e (omega (arith, f.records)), record { counts = omega (arith, f.counts); records = omega (arith, f.records) })
    ]

-- then all of them are entered
pub replay-fits : (room : ℕ) (rows : List Row) (is : List ℕ) → Fits room rows (length is) → (out : List Row) × (replay room rows is ≡ given out)
unfolding replay
replay-fits room rows [] f = (rows, refl)
replay-fits room rows (i ∷ is) f =
    let one = enter-fits room rows i (length is) f in
    let rest = replay-fits room one.0 is one.2 in (rest.0, rw one.1 rest.1)

-- what holds of the rows `out` after samples were entered into `rows`
record Entered (room : ℕ) (rows : List Row) (is : List ℕ) (out : List Row) : Type 0 where
  expands : expand (reverse out) ≡ expand (reverse rows) ++ is
  rooms : length rows ≤ room → length out ≤ room

-- the same for every answer
abbrev Told : ℕ → List Row → List ℕ → Answer (List Row) → Type 0
Told room rows is (given out) = Entered room rows is out
Told room rows is none = ⊥
Told room rows is (refused n) = Unit

expand-last : (r : Row) (rs : List Row) → expand (reverse (r ∷ rs)) ≡ expand (reverse rs) ++ replicate r.count r.index
unfolding expand
expand-last r rs = rw (reverse-cons, expand_append, append-nil)

joined : (room : ℕ) (r : Row) (rs : List Row) (i : ℕ) → r.index ≡ i → r.count < count_limit → Entered room (r ∷ rs) (i ∷ []) (record { count = r.count + 1; index = i } ∷ rs)
joined room r rs i e h =
    record {
      expands = rw (expand-last, expand-last r rs, append_assoc, e, replicate-append-replicate r.count 1 i);
      rooms = λ l. l;
    }

begun : (room : ℕ) (rows : List Row) (i : ℕ) → length rows < room → Entered room rows (i ∷ []) (record { count = 1; index = i } ∷ rows)
begun room rows i h = record { expands = expand-last _ rows; rooms = λ l. h }

enter-told : (room : ℕ) (rows : List Row) (i : ℕ) → Told room rows (i ∷ []) (enter room rows i)
unfolding enter
enter-told room [] i = either (Told room [] (i ∷ [])) (leb room 0) (λ t. tt) (λ f. begun room [] i (leb-false _ _ f))
enter-told room (r ∷ rs) i =
    let P = Told room (r ∷ rs) (i ∷ []) in
    either P (eqb r.index i)
    (λ e. either P (leb count_limit r.count) (λ t. tt) (λ f. joined room r rs i (eqb-true _ _ e) (leb-false _ _ f)))
    (λ e. either P (leb room (length (r ∷ rs))) (λ t. tt) (λ f. begun room (r ∷ rs) i (leb-false _ _ f)))

-- one sample, then the others
onward : {room : ℕ} {rows next : List Row} {i : ℕ} (is : List ℕ) → Entered room rows (i ∷ []) next → (a : Answer (List Row)) → Told room next is a → Told room rows (i ∷ is) a
onward is one (given out) t =
    record {
      expands = t.expands ∙ rw (one.expands, append_assoc) refl;
      rooms = λ l. t.rooms (one.rooms l);
    }
onward is one (refused n) t = t
onward {room = room} {rows = rows} {next = next} {i = i} is one none t = elim t [ ]

replay-told : (room : ℕ) (rows : List Row) (is : List ℕ) → Told room rows is (replay room rows is)
unfolding replay
replay-told room rows [] = record { expands = sym (append-nil _); rooms = λ l. l }
replay-told room rows (i ∷ is) = step (λ next. replay-told room next is) (enter room rows i) (enter-told room rows i)
  where
    step : ((next : List Row) → Told room next is (replay room next is)) → (a : Answer (List Row)) → Told room rows (i ∷ []) a → Told room rows (i ∷ is) (and_then a (λ next. replay room next is))
    step rest (given next) t = onward is t (replay room next is) (rest next)
    step rest (refused n) t = t
    step rest none t = elim t [ ]

module _ (room : ℕ) (rows : List Row) (is : List ℕ) where
  entered : {out : List Row} → replay room rows is ≡ given out → Entered room rows is out
  entered e = rw e at (replay-told room rows is)

  pub replay-expand : {out : List Row} → replay room rows is ≡ given out → expand (reverse out) ≡ expand (reverse rows) ++ is
  replay-expand e = (entered e).expands

  pub replay-room : {out : List Row} → replay room rows is ≡ given out → length rows ≤ room → length out ≤ room
  replay-room e = (entered e).rooms

  pub replay-never-none : replay room rows is ≡ none → ⊥
  replay-never-none e = rw e at (replay-told room rows is)

-- the rows of a table's samples tell the index that its pattern gives each sample, and cover as many
module _ (room : ℕ) (ps : List Pattern) {out : List Row} (e : replay room [] (samples_of ps) ≡ given out) where
  replay-samples : expand (reverse out) ≡ samples_of ps
  unfolding expand
  replay-samples = replay-expand room [] (samples_of ps) e

  pub replay-index : (k : ℕ) → index_at (reverse out) k ≡ index_of ps k
  replay-index k = index_at-expand (reverse out) k ∙ rw replay-samples (sym (index_of-samples ps k))

  pub replay-covered : covered (reverse out) ≡ covered_by ps
  replay-covered = covered-expand (reverse out) ∙ rw replay-samples (sym (covered_by-samples ps))
