-- How the number of lent records changes a replay: with as many as the rows that it makes it gives them, with fewer it is 29; and with as many as
-- samples it is never 29.
use mathlib.Core.Path.{◌≡◌, refl, subst}
use mathlib.Core.Bool.{Bool, true, false}
use mathlib.Core.List.{List, [], ◌∷◌}
use Prim.Native.Nat.{ℕ, suc, ◌+◌, ◌<◌, ◌≤◌}
use native.Mathlib.Decide.{dec_lt}
use native.Mathlib.Omega.{arith}
use borrow.Author.Tests.{le-leb, lt-leb}
use lib.Dec.{leb, eqb}
use lib.ListN.{length}
use Rattle.base_fields.specs.Answer.{Answer, given, none, refused, choose, refuse_if, and_then}
use Rattle.base_fields.proofs.Answers.{given_inj, given-first, given-past}
use Rattle.base_fields.proofs.Firm.{Other, Firm}
use Rattle.base_ids.specs.Limits.{count_limit}
use Rattle.table_rows.specs.Row.{Row}
use Rattle.table_replay.specs.Replay.{enter, replay}

-- samples that make the rows `out` of `rows`, by the number of records lent
pub record Needs (f : ℕ → Answer (List Row)) (rows out : List Row) : Type 0 where
  pub grows : length rows ≤ length out
  pub enough : (room : ℕ) → length out ≤ room → f room ≡ given out
  pub fewer : (room : ℕ) → length rows ≤ room → room < length out → f room ≡ refused 29

needs-same : {f : ℕ → Answer (List Row)} {rows x out : List Row} → x ≡ out → Needs f rows x → Needs f rows out
needs-same {f} {rows} e n = subst (λ (l : List Row). Needs f rows l) e n

needs_then : {rows next out : List Row} (f : ℕ → Answer (List Row)) (g : ℕ → List Row → Answer (List Row))
    → Needs f rows next → Needs (λ room. g room next) next out → Needs (λ room. and_then (f room) (g room)) rows out
needs_then {next = next} f g a b =
    record {
      grows = omega (arith, a.grows, b.grows);
      enough = λ room h. rw (a.enough room (omega (arith, b.grows))) (b.enough room h);
      fewer = λ room l h.
          elim (dec_lt room (length next)) [
            | yes m ↦ rw (a.fewer room l m) refl
            | no m ↦ rw (a.enough room (omega (arith, m))) (b.fewer room (omega (arith, m)) h)
          ];
    }

-- a row that begins needs a record
begins : (r : Row) (rows : List Row) → Needs (λ room. refuse_if (leb room (length rows)) 29 (given (r ∷ rows))) rows (r ∷ rows)
begins r rows =
    record {
      grows = omega arith;
      enough = λ room h. rw (lt-leb room (length rows) (omega arith)) refl;
      fewer = λ room l h. rw (le-leb room (length rows) (omega arith)) refl;
    }

-- one that is joined needs none
joins : (r q : Row) (rs : List Row) → Needs (λ room. given (q ∷ rs)) (r ∷ rs) (q ∷ rs)
joins r q rs = record { grows = omega arith; enough = λ room h. refl; fewer = λ room l h. absurd (omega arith) }

-- replays that were given with `more` records
module _ (more : ℕ) where
  enter-needs : (rows : List Row) (i : ℕ) {out : List Row} → enter more rows i ≡ given out → Needs (λ room. enter room rows i) rows out
  unfolding enter
  enter-needs [] i e = needs-same (given_inj (given-past (leb more 0) 29 _ e).1) (begins (record { count = 1; index = i }) [])
  enter-needs (r ∷ rs) i {out} e = by (eqb r.index i) (leb count_limit r.count) e
    where
      by : (same full : Bool)
          → choose same (refuse_if full 28 (given (record { count = r.count + 1; index = i } ∷ rs)))
          (refuse_if (leb more (length (r ∷ rs))) 29 (given (record { count = 1; index = i } ∷ r ∷ rs))) ≡ given out
          → Needs (λ room. choose same (refuse_if full 28 (given (record { count = r.count + 1; index = i } ∷ rs)))
          (refuse_if (leb room (length (r ∷ rs))) 29 (given (record { count = 1; index = i } ∷ r ∷ rs)))) (r ∷ rs) out
      by true true e = let z : ◌≡◌ {A = ℕ} 0 1 = cc in absurd (omega arith)
      by true false e = needs-same (given_inj e) (joins r (record { count = r.count + 1; index = i }) rs)
      by false full e = needs-same (given_inj (given-past (leb more (length (r ∷ rs))) 29 _ e).1) (begins (record { count = 1; index = i }) (r ∷ rs))

  pub replay-needs : (rows : List Row) (is : List ℕ) {out : List Row} → replay more rows is ≡ given out → Needs (λ room. replay room rows is) rows out
  unfolding replay
  replay-needs rows [] e =
      needs-same (given_inj e)
      (record { grows = omega arith; enough = λ room h. refl; fewer = λ room l h. absurd (omega arith) })
  replay-needs rows (i ∷ is) e =
      let first = given-first (enter more rows i) (λ next. replay more next is) e in
      needs_then (λ room. enter room rows i) (λ room next. replay room next is) (enter-needs rows i first.1) (replay-needs first.0 is first.2)

-- with as many records as samples, a replay is never short of them
abbrev Roomy : List Row → Answer (List Row) → Type 0
Roomy rows (given out) = length out ≤ suc (length rows)
Roomy rows none = ⊥
Roomy rows (refused n) = Other n

module _ (room : ℕ) where
  enter-roomy : (rows : List Row) (i : ℕ) → length rows < room → Roomy rows (enter room rows i)
  unfolding enter
  enter-roomy [] i h = rw (lt-leb room 0 h) (omega arith)
  enter-roomy (r ∷ rs) i h = rw (lt-leb room (length (r ∷ rs)) h) (by (eqb r.index i) (leb count_limit r.count))
    where
      by : (same full : Bool)
          → Roomy (r ∷ rs) (choose same (refuse_if full 28 (given (record { count = r.count + 1; index = i } ∷ rs))) (given (record { count = 1; index = i } ∷ r ∷ rs)))
      by true true = (refl, refl)
      by true false = omega arith
      by false full = omega arith

  pub replay-roomy : (rows : List Row) (is : List ℕ) → length rows + length is ≤ room → Firm (replay room rows is)
  unfolding replay
  replay-roomy rows [] h = tt
  replay-roomy rows (i ∷ is) h = by (enter room rows i) (enter-roomy rows i (omega arith)) (λ next l. replay-roomy next is (omega arith))
    where
      by : (a : Answer (List Row)) → Roomy rows a → ((next : List Row) → length next ≤ suc (length rows) → Firm (replay room next is)) → Firm (and_then a (λ next. replay room next is))
      by (given next) r f = f next r
      by (refused n) r f = r
      by none r f = elim r [ ]
