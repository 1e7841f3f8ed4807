-- The replay of periods: samples that leave the last row as they found it do the same again, one period after the other.
use mathlib.Core.Path.{◌≡◌, refl, ap, ◌∙◌}
use mathlib.Core.Bool.{Bool, true, false}
use Prim.Native.Nat.{ℕ, zero, suc, ◌+◌, ◌*◌, ◌≤◌, ◌<◌}
use native.Mathlib.Nat.{add-mod_right, suc-mul, zero-mul, suc-add}
use native.Mathlib.Decide.{dec_lt}
use native.Mathlib.Omega.{arith}
use borrow.Author.Tests.{le-leb, lt-leb, eqb-true, eqb-false}
use mathlib.Core.List.{List, [], ◌∷◌, ◌++◌, append_assoc}
use lib.Dec.{leb, eqb}
use lib.ListN.{length, length-append}
use Rattle.base_fields.specs.Answer.{Answer, given, refused, choose}
use Rattle.base_fields.proofs.Answers.{refused-given}
use Rattle.table_rows.specs.Row.{Row}
use Rattle.table_rows.specs.Pattern.{Pattern, index_in, samples_from}
use Rattle.base_ids.specs.Limits.{count_limit}
use Rattle.table_replay.specs.Replay.{replay}
use Rattle.table_rows.proofs.Samples.{samples_from-add}
use Rattle.table_replay.proofs.Replay.{replay_append, enter-join, enter-over, enter-begin, enter_no_room}

-- rows for which there is room, else 29
abbrev pub fit : ℕ → List Row → Answer (List Row)
fit room rows = choose (leb (length rows) room) (given rows) (refused 29)

-- samples that make of a last row r the last row `last` and `more` rows below it, whatever stands below r
abbrev pub Onto : Row → List ℕ → Row → List Row → Type 0
Onto r xs last more = (room : ℕ) (below : List Row) → length (r ∷ below) ≤ room → replay room (r ∷ below) xs ≡ fit room (last ∷ more ++ below)

pub record Local (r : Row) (below : List Row) (xs : List ℕ) (out : List Row) : Type 0 where
  pub last : Row
  pub more : List Row
  pub rows : out ≡ last ∷ more ++ below
  pub onto : Onto r xs last more

abbrev Others : ℕ → List ℕ → List Row → Type 0
Others room xs out = (r : Row) (below : List Row) → replay room (r ∷ below) xs ≡ given out → Local r below xs out

-- the rows below the last one are never touched, and nothing depends on them but whether there is room
pub replay-local : (xs : List ℕ) (room : ℕ) (r : Row) (below : List Row) {out : List Row} → replay room (r ∷ below) xs ≡ given out → Local r below xs out
unfolding replay
replay-local [] room r below e = record { last = r; more = []; rows = cc; onto = λ room' below' h. rw (le-leb _ _ h) }
replay-local (i ∷ xs) room r below {out} e = by (λ next below' g. replay-local xs room next below' g) (eqb r.index i) refl
  where
    joins : Others room xs out → r.index ≡ i → r.count < count_limit → Local r below (i ∷ xs) out
    joins others t l =
        let one : Row = record { count = r.count + 1; index = i } in
        let ih = others one below (rw (enter-join room r below t l) at e) in
        record { last = ih.last; more = ih.more; rows = ih.rows; onto = λ room' below' h. rw (enter-join room' r below' t l) (ih.onto room' below' h) }

    begins : Others room xs out → (r.index ≡ i → ⊥) → length (r ∷ below) < room → Local r below (i ∷ xs) out
    begins others t l =
        let one : Row = record { count = 1; index = i } in
        let ih = others one (r ∷ below) (rw (enter-begin room (r ∷ below) i t l) at e) in
        record {
          last = ih.last;
          more = ih.more ++ r ∷ [];
          rows = ih.rows ∙ rw (append_assoc ih.more (r ∷ []) below);
          onto = λ room' below' h.
              elim (dec_lt (length (r ∷ below')) room') [
                | yes g ↦ rw (enter-begin room' (r ∷ below') i t g, append_assoc ih.more (r ∷ []) below') (ih.onto room' (r ∷ below') g)
                | no g ↦
                    let n : room' < length (ih.last ∷ ih.more ++ r ∷ below') = omega (arith, length-append ih.more (r ∷ below')) in
                    rw (enter_no_room room' (r ∷ below') i t (omega arith), append_assoc ih.more (r ∷ []) below', lt-leb _ _ n)
              ];
        }

    by : Others room xs out → (b : Bool) → eqb r.index i ≡ b → Local r below (i ∷ xs) out
    by others true t =
        elim (dec_lt r.count count_limit) [
          | yes l ↦ joins others (eqb-true _ _ t) l
          | no l ↦ absurd (refused-given (rw (enter-over room r below (eqb-true _ _ t) (omega arith)) at e))
        ]
    by others false t =
        elim (dec_lt (length (r ∷ below)) room) [
          | yes l ↦ begins others (eqb-false _ _ t) l
          | no l ↦ absurd (refused-given (rw (enter_no_room room (r ∷ below) i (eqb-false _ _ t) (omega arith)) at e))
        ]

-- a pattern's samples come again after its length
pub samples-again : (p : Pattern) (k n : ℕ) → samples_from p (k + length p.indices) n ≡ samples_from p k n
unfolding samples_from index_in
samples-again p k zero = refl
samples-again p k (suc n) = rw (add-mod_right k (length p.indices), ← suc-add k (length p.indices), samples-again p (suc k) n)

-- the rows of n periods, each of which leaves the rows E, on those below
unfoldable pub stacked : ℕ → List Row → List Row → List Row
stacked zero E below = below
stacked (suc n) E below = stacked n E (E ++ below)

pub stacked-length : (n : ℕ) (E below : List Row) → length (stacked n E below) ≡ n * length E + length below
unfolding stacked
stacked-length zero E below = omega (arith, zero-mul (length E))
stacked-length (suc n) E below = stacked-length n E (E ++ below) ∙ rw (length-append E below) (omega (arith, suc-mul n (length E)))

module _ (p : Pattern) (k : ℕ) (r : Row) (E : List Row) (one : Onto r (samples_from p k (length p.indices)) r E) where
  -- n periods
  pub replay-periods : (n room : ℕ) (below : List Row) → length (r ∷ below) ≤ room → replay room (r ∷ below) (samples_from p k (n * length p.indices)) ≡ fit room (r ∷ stacked n E below)
  unfolding replay samples_from stacked
  replay-periods zero room below h = rw (zero-mul, le-leb _ _ h)
  replay-periods (suc n) room below h =
      let len = length p.indices in
      let e : suc n * len ≡ len + n * len = omega (arith, suc-mul n len) in
      let parts : samples_from p k (suc n * len) ≡ samples_from p k len ++ samples_from p k (n * len) =
      ap (λ (m : ℕ). samples_from p k m) e ∙ samples_from-add p k len (n * len) ∙ rw (samples-again p k (n * len)) refl in
      rw (parts, replay_append, one room below h)
      (elim (dec_lt room (length (r ∷ E ++ below))) [
        | yes g ↦
            let l : room < length (r ∷ stacked n E (E ++ below)) = omega (arith, stacked-length n E (E ++ below)) in
            rw (lt-leb _ _ g, lt-leb _ _ l)
        | no g ↦
            let l : length (r ∷ E ++ below) ≤ room = omega arith in
            rw (le-leb _ _ l) (replay-periods n room (E ++ below) l)
      ])
