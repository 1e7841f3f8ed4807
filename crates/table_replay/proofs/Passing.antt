-- Periods that are passed in one step.
use mathlib.Core.Path.{◌≡◌, refl, ap, sym, subst, ◌∙◌}
use mathlib.Core.Logic.{◌⊎◌, inl, inr, ⊎_elim}
use Prim.Native.Nat.{ℕ, suc, ◌+◌, ◌-◌, ◌*◌, ◌/◌, ◌≤◌, ◌<◌}
use native.Mathlib.Nat.{le-div_iff_mul-le, div-lt_iff_lt-mul, zero-mul, add-zero, sub_self}
use native.Mathlib.Omega.{arith}
use borrow.Author.Tests.{le-leb}
use mathlib.Core.List.{List, [], ◌∷◌, ◌++◌}
use lib.ListN.{length, replicate, length-append}
use Rattle.base_fields.specs.Answer.{given}
use Rattle.table_rows.specs.Row.{Row}
use Rattle.table_rows.specs.Pattern.{Pattern, samples_from}
use Rattle.table_replay.specs.Replay.{replay}
use Rattle.table_rows.proofs.Samples.{samples_from-add}
use Rattle.table_replay.proofs.Replay.{replay_append}
use Rattle.table_replay.proofs.Repeating.{fit, Onto, replay-local, samples-again, stacked, replay-periods}
use Rattle.table_replay.specs.Enter.{tail_of}
use Rattle.table_replay.specs.Periods.{Repeats, repeated, AlikePeriod}
use Rattle.table_replay.specs.Step.{Marked}
use Rattle.table_replay.specs.declared.enter.Tail.{Tail}
use Rattle.table_replay.specs.declared.periods.Mark.{Mark}

pub alike_of : {mark : Mark} {tail : Tail} {k len count n : ℕ} → Repeats mark tail k len count n → (n ≡ 0 → ⊥) → AlikePeriod mark tail k len
alike_of r h = ⊎_elim (λ e. absurd (h e)) (λ a. a) r.alike

pub repeated-none : (mark : Mark) (tail : Tail) → tail ≡ repeated mark tail 0
repeated-none mark tail = rw (zero-mul, add-zero)

-- whether there is room for n times `more` rows, by division
pub enough : {room rows more n : ℕ} → rows ≤ room → 0 < more → n ≤ (room - rows) / more → rows + n * more ≤ room
enough {room} {rows} {more} {n} l p h = let g = (le-div_iff_mul-le p).0 h in omega arith

pub too_many : {room rows more n : ℕ} → rows ≤ room → 0 < more → (room - rows) / more < n → room < rows + n * more
too_many {room} {rows} {more} {n} l p h = let g = (div-lt_iff_lt-mul p).0 h in omega arith

-- n periods behind the rows x ∷ below: each leaves x the last row, with those rows below it that the one since the mark left
pub record Growth (room : ℕ) (mark : Mark) (tail : Tail) (n : ℕ) (xs : List ℕ) (x : Row) (below : List Row) : Type 0 where
  pub period : List Row
  pub others : List Row
  pub parts : below ≡ period ++ others
  pub more : n * length period ≡ n * (tail.rows - mark.tail.rows)
  pub from : (n ≡ 0) ⊎ (suc (length others) ≡ mark.tail.rows)
  pub replays : replay room (x ∷ below) xs ≡ fit room (x ∷ stacked n period below)

module _ (p : Pattern) (room k : ℕ) where
  pub marked-here : {rows : List Row} {tail : Tail} → tail ≡ tail_of rows → Marked p room k rows (record { sample = k; tail = tail })
  unfolding samples_from replay
  marked-here {rows} e = record { before = rows; standing = e; behind = omega arith; since = rw sub_self }

  pub marked-run : {rows next : List Row} {mark : Mark} (n i : ℕ) → Marked p room k rows mark → samples_from p k n ≡ replicate n i →
      replay room rows (replicate n i) ≡ given next → Marked p room (k + n) next mark
  marked-run {mark = mark} n i m e r =
      let b = m.behind in
      let d : k + n - mark.sample ≡ k - mark.sample + n = omega arith in
      let j : mark.sample + (k - mark.sample) ≡ k = omega arith in
      record {
        before = m.before;
        standing = m.standing;
        behind = omega arith;
        since = rw (d, samples_from-add p mark.sample (k - mark.sample) n, j, e, replay_append, m.since) r;
      }

  pub marked_still : {x : Row} {below : List Row} {mark : Mark} (n len : ℕ) (period : List Row) → n ≡ 0 → Marked p room k (x ∷ below) mark → Marked p room (k + n * len) (x ∷ stacked n period below) mark
  unfolding stacked
  marked_still n len period e m = rw (e, zero-mul, add-zero) m

row_same : {x r : Row} → x.count ≡ r.count → x.index ≡ r.index → x ≡ r
row_same c i = λ j. record { count = c j; index = i j }

last-same : {x y : Row} {xs ys : List Row} → x ∷ xs ≡ y ∷ ys → x ≡ y
last-same e = cc

below-same : {x y : Row} {xs ys : List Row} → x ∷ xs ≡ y ∷ ys → xs ≡ ys
below-same e = cc

-- the rows that a period leaves, counted
more_rows : (more others : List Row) {below : List Row} {rows before : ℕ} → below ≡ more ++ others → rows ≡ suc (length below) → before ≡ suc (length others) → length more ≡ rows - before
more_rows more others parts e g = omega (arith, ap length parts, length-append more others)

onto_same : (xs : List ℕ) (more : List Row) {x r last : Row} → x ≡ r → last ≡ x → Onto r xs last more → Onto x xs x more
onto_same xs more {x} {r} e f o = subst (λ (b : Row). Onto b xs x more) (sym e) (subst (λ (l : Row). Onto r xs l more) f o)

module _ (p : Pattern) (room k len count : ℕ) (t : len ≡ length p.indices) where
  -- no period
  growth-none : (mark : Mark) (tail : Tail) (n : ℕ) (x : Row) (below : List Row) → length (x ∷ below) ≤ room → n ≡ 0 →
      Growth room mark tail n (samples_from p k (n * len)) x below
  unfolding samples_from replay stacked
  growth-none mark tail n x below h e =
      record {
        period = [];
        others = below;
        parts = refl;
        more = rw e (omega arith);
        from = inl e;
        replays = rw (e, zero-mul, le-leb _ _ h);
      }

  -- periods alike
  growth-alike : (mark : Mark) (tail : Tail) (n : ℕ) (x : Row) (below : List Row) → length (x ∷ below) ≤ room → tail ≡ tail_of (x ∷ below) → Marked p room k (x ∷ below) mark →
      AlikePeriod mark tail k len → Growth room mark tail n (samples_from p k (n * len)) x below
  growth-alike mark tail n x below h e m a = by m.before m.standing m.since
    where
      by : (before : List Row) → mark.tail ≡ tail_of before → replay room before (samples_from p mark.sample (k - mark.sample)) ≡ given (x ∷ below) →
          Growth room mark tail n (samples_from p k (n * len)) x below
      by [] g r = let z = ap (λ (y : Tail). y.rows) g in absurd (omega (arith, a.some))
      by (b ∷ bs) g r =
          let since : k - mark.sample ≡ length p.indices = omega (arith, a.period) in
          let z = replay-local (samples_from p mark.sample (length p.indices)) room b bs (rw since at r) in
          let same : x ≡ b = row_same (sym (ap (λ (y : Tail). y.count) e) ∙ a.count ∙ ap (λ (y : Tail). y.count) g) (sym (ap (λ (y : Tail). y.index) e) ∙ a.index ∙ ap (λ (y : Tail). y.index) g) in
          let last : z.last ≡ x = sym (last-same z.rows) in
          let parts : below ≡ z.more ++ bs = below-same z.rows in
          let one : Onto x (samples_from p mark.sample (length p.indices)) x z.more = onto_same (samples_from p mark.sample (length p.indices)) z.more same last z.onto in
          let size : length z.more ≡ tail.rows - mark.tail.rows = more_rows z.more bs parts (ap (λ (y : Tail). y.rows) e) (ap (λ (y : Tail). y.rows) g) in
          let from : k ≡ mark.sample + length p.indices = a.period ∙ rw t refl in
          let again : samples_from p k (n * len) ≡ samples_from p mark.sample (n * length p.indices) = rw (t, from) (samples-again p mark.sample (n * length p.indices)) in
          record {
            period = z.more;
            others = bs;
            parts = parts;
            more = rw size refl;
            from = inr (sym (ap (λ (y : Tail). y.rows) g));
            replays = ap (λ (ys : List ℕ). replay room (x ∷ below) ys) again ∙ replay-periods p mark.sample x z.more one n room below h;
          }

  pub growth : (mark : Mark) (tail : Tail) (n : ℕ) (x : Row) (below : List Row) → length (x ∷ below) ≤ room → tail ≡ tail_of (x ∷ below) → Marked p room k (x ∷ below) mark →
      Repeats mark tail k len count n → Growth room mark tail n (samples_from p k (n * len)) x below
  growth mark tail n x below h e m r = ⊎_elim (growth-none mark tail n x below h) (growth-alike mark tail n x below h e m) r.alike
