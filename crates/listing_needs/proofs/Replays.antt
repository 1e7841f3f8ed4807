-- With any number of records a replay answers what it answers where records never run out, or 29.
use mathlib.Core.Path.{◌≡◌, refl}
use mathlib.Core.Logic.{◌⊎◌, inl, inr, ⊎_elim}
use mathlib.Core.Bool.{Bool, true, false}
use mathlib.Core.List.{List, [], ◌∷◌}
use Prim.Native.Nat.{ℕ, suc, ◌+◌, ◌<◌, ◌≤◌}
use native.Mathlib.Omega.{arith}
use borrow.Author.Tests.{lt-leb}
use lib.Dec.{leb, eqb}
use lib.ListN.{length}
use Rattle.base_fields.specs.Answer.{Answer, given, none, refused, choose, refuse_if, and_then}
use Rattle.base_fields.proofs.Answers.{given_inj, given-past}
use Rattle.base_ids.specs.Limits.{count_limit}
use Rattle.table_rows.specs.Row.{Row}
use Rattle.table_replay.specs.Replay.{enter, replay}

-- a is b, or 29
abbrev pub SameOr29 : {A : Type 0} → Answer A → Answer A → Type 0
SameOr29 a b = (a ≡ b) ⊎ (a ≡ refused 29)

-- what follows a stage that is the same or 29
pub same_then : {A B : Type 0} (a b : Answer A) (f g : A → Answer B) → SameOr29 a b → ((x : A) → b ≡ given x → SameOr29 (f x) (g x)) → SameOr29 (and_then a f) (and_then b g)
same_then {A} {B} a b f g s h = ⊎_elim {C = SameOr29 (and_then a f) (and_then b g)} (λ e. rw e (by b refl)) (λ e. inr (rw e refl)) s
  where
    by : (c : Answer A) → b ≡ c → SameOr29 (and_then c f) (and_then c g)
    by (given x) e = h x e
    by none e = inl refl
    by (refused n) e = inl refl

-- a test that asks for records
pub asked : {A : Type 0} (few many : Bool) (rest : Answer A) → many ≡ false → SameOr29 (refuse_if few 29 rest) (refuse_if many 29 rest)
asked true many rest e = inr refl
asked false many rest e = inl (rw e refl)

module _ (room more : ℕ) where
  enter-same : (rows : List Row) (i : ℕ) → length rows < more → SameOr29 (enter room rows i) (enter more rows i)
  unfolding enter
  enter-same [] i h = asked (leb room 0) (leb more 0) _ (lt-leb more 0 h)
  enter-same (r ∷ rs) i h = by (eqb r.index i)
    where
      joins : Answer (List Row)
      joins = refuse_if (leb count_limit r.count) 28 (given (record { count = r.count + 1; index = i } ∷ rs))

      begins : ℕ → Answer (List Row)
      begins n = refuse_if (leb n (length (r ∷ rs))) 29 (given (record { count = 1; index = i } ∷ r ∷ rs))

      by : (same : Bool) → SameOr29 (choose same joins (begins room)) (choose same joins (begins more))
      by true = inl refl
      by false = asked (leb room (length (r ∷ rs))) (leb more (length (r ∷ rs))) _ (lt-leb more (length (r ∷ rs)) h)

  enter-grows : (rows : List Row) (i : ℕ) {next : List Row} → enter more rows i ≡ given next → length next ≤ suc (length rows)
  unfolding enter
  enter-grows [] i e = rw (← given_inj (given-past (leb more 0) 29 _ e).1) (omega arith)
  enter-grows (r ∷ rs) i {next} e = by (eqb r.index i) e
    where
      joins : Answer (List Row)
      joins = refuse_if (leb count_limit r.count) 28 (given (record { count = r.count + 1; index = i } ∷ rs))

      begins : Answer (List Row)
      begins = refuse_if (leb more (length (r ∷ rs))) 29 (given (record { count = 1; index = i } ∷ r ∷ rs))

      by : (same : Bool) → choose same joins begins ≡ given next → length next ≤ suc (length (r ∷ rs))
      by true f = rw (← given_inj (given-past (leb count_limit r.count) 28 _ f).1) (omega arith)
      by false f = rw (← given_inj (given-past (leb more (length (r ∷ rs))) 29 _ f).1) (omega arith)

  -- where `more` records are enough for rows and samples
  pub replay-same : (is : List ℕ) (rows : List Row) → length rows + length is ≤ more → SameOr29 (replay room rows is) (replay more rows is)
  unfolding replay
  replay-same [] rows h = inl refl
  replay-same (i ∷ is) rows h =
      same_then (enter room rows i) (enter more rows i) _ _ (enter-same rows i (omega arith)) (λ next e.
      replay-same is next (omega (arith, enter-grows rows i e)))
