-- Rows that cover no more samples than the count limit are never turned away with 28 (document 02, A13).
use mathlib.Core.Path.{◌≡◌, refl}
use Prim.Native.Nat.{ℕ, ◌+◌, ◌≤◌}
use native.Mathlib.Omega.{arith}
use borrow.Author.Tests.{leb-true}
use mathlib.Core.List.{List, [], ◌∷◌}
use lib.Dec.{ltb, leb, eqb}
use lib.ListN.{length}
use Rattle.base_fields.specs.Answer.{Answer, given, none, refused, and_then}
use Rattle.base_fields.proofs.Numbered.{RefusesBy, by-refuse_if, by-and_then}
use Rattle.table_rows.specs.Row.{Row, covered, expand, records_in}
use Rattle.base_ids.specs.Limits.{count_limit, record_limit}
use Rattle.table_replay.specs.Replay.{enter, replay}
use Rattle.table_rows.proofs.Samples.{covered-expand}
use Rattle.table_repaint.specs.Repaint.{changed, stated_rows, repainted}
use Rattle.table_rows.proofs.Choice.{either}
use Rattle.table_repaint.proofs.Map.{changed-length}

-- one sample more, or no room
abbrev One : ℕ → Answer (List Row) → Type 0
One n (given next) = covered next ≡ n + 1
One n none = ⊥
One n (refused code) = code ≡ 29

enter-limit : (room : ℕ) (rows : List Row) (i : ℕ) → covered rows + 1 ≤ count_limit → One (covered rows) (enter room rows i)
unfolding enter covered
enter-limit room [] i h = either (One 0) (leb room 0) (λ t. refl) (λ f. refl)
enter-limit room (r ∷ rs) i h =
    let P = One (r.count + covered rs) in
    either P (eqb r.index i)
    (λ e. either P (leb count_limit r.count) (λ t. let g = leb-true count_limit r.count t in absurd (omega arith)) (λ f. omega arith))
    (λ e. either P (leb room (length (r ∷ rs))) (λ t. refl) (λ f. omega arith))

replay-limit : (room : ℕ) (rows : List Row) (is : List ℕ) → covered rows + length is ≤ count_limit → RefusesBy (λ n. n ≡ 29) ⊥ (replay room rows is)
unfolding replay
replay-limit room rows [] h = tt
replay-limit room rows (i ∷ is) h = by (λ next g. replay-limit room next is g) (enter room rows i) (enter-limit room rows i (omega arith))
  where
    by : ((next : List Row) → covered next + length is ≤ count_limit → RefusesBy (λ n. n ≡ 29) ⊥ (replay room next is))
        → (told : Answer (List Row)) → One (covered rows) told → RefusesBy (λ n. n ≡ 29) ⊥ (and_then told (λ next. replay room next is))
    by rest (given next) o = rest next (omega arith)
    by rest (refused m) o = o
    by rest none o = elim o [ ]

-- the numbers that are left
abbrev Others : ℕ → Type 0
Others n = (n ≡ 28) → ⊥

pub never-over : (l : List ℕ) (stated a b i : ℕ) → covered (stated_rows l stated) ≤ count_limit → repainted l stated a b i ≡ refused 28 → ⊥
unfolding repainted covered
never-over l stated a b i h e =
    let old = stated_rows l stated in
    let samples = changed a b i (expand old) in
    let short = replay-limit (records_in l) [] samples (omega (arith, changed-length a b i 0 (expand old), covered-expand old)) in
    let told : RefusesBy Others Unit (repainted l stated a b i) =
    by-refuse_if Others Unit (ltb record_limit (records_in l)) 55 _ (λ e. omega arith)
    (by-refuse_if Others Unit (ltb (records_in l) stated) 70 _ (λ e. omega arith)
    (by-refuse_if Others Unit (leb b a) 70 _ (λ e. omega arith)
    (by-refuse_if Others Unit (ltb (covered old) b) 70 _ (λ e. omega arith)
    (by-and_then Others Unit (replay (records_in l) [] samples) _ (full (replay (records_in l) [] samples) short) (λ out f. tt))))) in
    (rw e at told) refl
  where
    full : (told : Answer (List Row)) → RefusesBy (λ n. n ≡ 29) ⊥ told → RefusesBy Others Unit told
    full (given out) f = tt
    full (refused n) f = λ e. omega arith
    full none f = elim f [ ]
