-- Samples as rows, equal neighbours joined: where a row ends, how large its count is at least, and that the replay makes these rows.
use mathlib.Core.Path.{◌≡◌, refl, sym, ◌∙◌}
use Prim.Native.Nat.{ℕ, zero, suc, ◌+◌, ◌≤◌, ◌<◌}
use native.Mathlib.Decide.{ℕ_discrete, dec_lt}
use native.Mathlib.Omega.{arith}
use borrow.Author.Tests.{eq-eqb, ne_eqb}
use mathlib.Core.List.{List, [], ◌∷◌, ◌++◌, reverse, reverse-cons, append_assoc}
use lib.ListN.{length, replicate, replicate-append-replicate}
use Rattle.base_fields.specs.Answer.{given}
use Rattle.base_fields.proofs.Answers.{given_inj, refused-given}
use Rattle.base_ids.specs.Limits.{count_limit}
use Rattle.table_rows.specs.Row.{Row}
use Rattle.table_replay.specs.Replay.{replay}
use Rattle.table_replay.proofs.Replay.{enter-join, enter-over, enter-begin, enter_no_room}
use Rattle.table_structs.specs.Stream.{with_sample, samples_joined, CountsFit}

-- the first row has the index i and covers m samples or more
pub record FirstCovers (m i : ℕ) (rows : List Row) : Type 0 where
  pub row : Row
  pub rest : List Row
  pub is : rows ≡ row ∷ rest
  pub index : row.index ≡ i
  pub least : m ≤ row.count

-- no sample, or one of another index
abbrev pub Apart : ℕ → List ℕ → Type 0
Apart i [] = Unit
Apart i (j ∷ l) = j ≡ i → ⊥

sample-begins : (i : ℕ) (rows : List Row) → FirstCovers 1 i (with_sample i rows)
sample-begins i [] = record { row = record { count = 1; index = i }; rest = []; is = refl; index = refl; least = omega arith }
sample-begins i (r ∷ rs) =
    elim (ℕ_discrete r.index i) [
      | yes e ↦ record { row = record { count = r.count + 1; index = i }; rest = rs; is = simp (eq-eqb _ _ e); index = refl; least = omega arith }
      | no n ↦ record { row = record { count = 1; index = i }; rest = r ∷ rs; is = simp (ne_eqb _ _ n); index = refl; least = omega arith }
    ]

sample-joins : (m i : ℕ) (rows : List Row) → FirstCovers m i rows → FirstCovers (suc m) i (with_sample i rows)
sample-joins m i rows b =
    record {
      row = record { count = b.row.count + 1; index = i };
      rest = b.rest;
      is = rw b.is (simp (eq-eqb _ _ b.index));
      index = refl;
      least = omega (arith, b.least);
    }

pub joined-begins : (m i : ℕ) (l : List ℕ) → 0 < m → FirstCovers m i (samples_joined (replicate m i ++ l))
unfolding samples_joined
joined-begins zero i l h = absurd (omega arith)
joined-begins (suc zero) i l h = sample-begins i (samples_joined l)
joined-begins (suc (suc m)) i l h = sample-joins (suc m) i (samples_joined (replicate (suc m) i ++ l)) (joined-begins (suc m) i l (omega arith))

-- a sample in front of another index
sample-apart : (i : ℕ) (l : List ℕ) → Apart i l → with_sample i (samples_joined l) ≡ record { count = 1; index = i } ∷ samples_joined l
unfolding samples_joined
sample-apart i [] a = refl
sample-apart i (j ∷ l) a =
    let b = sample-begins j (samples_joined l) in
    let n : b.row.index ≡ i → ⊥ = λ e. a (sym b.index ∙ e) in
    rw b.is (simp (ne_eqb _ _ n))

-- a run in front of another index is a row
pub joined-row : (m i : ℕ) (l : List ℕ) → 0 < m → Apart i l → samples_joined (replicate m i ++ l) ≡ record { count = m; index = i } ∷ samples_joined l
unfolding samples_joined
joined-row zero i l h a = absurd (omega arith)
joined-row (suc zero) i l h a = sample-apart i l a
joined-row (suc (suc m)) i l h a =
    let e : suc (suc m) ≡ suc m + 1 = omega arith in
    rw (joined-row (suc m) i l (omega arith) a) (simp (eq-eqb i i refl, e))

-- each row of a list is small where those of its parts are
small_append : (a b : List Row) → CountsFit a → CountsFit b → CountsFit (a ++ b)
unfolding CountsFit
small_append [] b p q = q
small_append (r ∷ a) b p q = (p.0, small_append a b p.1 q)

small-reverse : (rows : List Row) → CountsFit rows → CountsFit (reverse rows)
unfolding CountsFit
small-reverse [] p = tt
small-reverse (r ∷ rows) p = rw (reverse-cons) (small_append (reverse rows) (r ∷ []) (small-reverse rows p.1) (p.0, tt))

-- what the replay made: the rows below the last one stay, and the last one is joined with the samples
record Makes (r : Row) (rs : List Row) (is : List ℕ) (out : List Row) : Type 0 where
  rows : reverse out ≡ reverse rs ++ samples_joined (replicate r.count r.index ++ is)
  small : CountsFit out

module _ (room : ℕ) where
  makes : (r : Row) (rs : List Row) (is : List ℕ) {out : List Row} → 0 < r.count → CountsFit (r ∷ rs) → replay room (r ∷ rs) is ≡ given out → Makes r rs is out
  unfolding replay samples_joined CountsFit
  makes r rs [] h small e =
      rw (← given_inj e)
      (record {
        rows = rw (joined-row r.count r.index [] h tt) (reverse-cons r rs);
        small = small;
      })
  makes r rs (i ∷ is) {out} h small e =
      elim (ℕ_discrete r.index i) [
        | yes same ↦
            elim (dec_lt r.count count_limit) [
              | yes l ↦
                  let next : Row = record { count = r.count + 1; index = i } in
                  let m = makes next rs is (omega arith) (omega arith, small.1) (rw (enter-join room r rs same l) at e) in
                  record {
                    rows = m.rows ∙ rw (same, ← (replicate-append-replicate r.count 1 i), append_assoc) refl;
                    small = m.small;
                  }
              | no l ↦ absurd (refused-given (rw (enter-over room r rs same (omega arith)) at e))
            ]
        | no other ↦
            elim (dec_lt (length (r ∷ rs)) room) [
              | yes l ↦
                  let next : Row = record { count = 1; index = i } in
                  let m = makes next (r ∷ rs) is (omega arith) (omega arith, small) (rw (enter-begin room (r ∷ rs) i other l) at e) in
                  record {
                    rows = m.rows ∙ rw (reverse-cons, append_assoc, joined-row r.count r.index (i ∷ is) h (λ q. other (sym q))) refl;
                    small = m.small;
                  }
              | no l ↦ absurd (refused-given (rw (enter_no_room room (r ∷ rs) i other (omega arith)) at e))
            ]
      ]

  -- the rows of a replay, first row first, and that each is small
  pub replay-joined : (is : List ℕ) {out : List Row} → replay room [] is ≡ given out → (reverse out ≡ samples_joined is) × CountsFit (samples_joined is)
  unfolding replay samples_joined CountsFit
  replay-joined [] e = rw (← given_inj e) (refl, tt)
  replay-joined (i ∷ is) {out} e =
      elim (dec_lt 0 room) [
        | yes l ↦
            let m = makes (record { count = 1; index = i }) [] is (omega arith) (omega arith, tt) (rw (enter-begin room [] i tt l) at e) in
            (m.rows, rw (← m.rows) (small-reverse out m.small))
        | no l ↦ absurd (refused-given (rw (enter_no_room room [] i tt (omega arith)) at e))
      ]
