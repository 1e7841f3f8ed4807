-- The theorem of A8: what each call gives, for every list of calls from a fresh head.
use mathlib.Core.Path.{◌≡◌, refl, ap, sym, ◌∙◌}
use Prim.Native.Nat.{ℕ, suc, ◌<◌, ◌≤◌, min}
use native.Mathlib.Nat.{zero-add}
use native.Mathlib.Numerals.{add-one}
use native.Mathlib.Decide.{dec_lt}
use native.Mathlib.Omega.{arith}
use borrow.Author.Tests.{le-leb, lt-leb}
use mathlib.Core.Bool.{true, false}
use mathlib.Core.List.{List, [], ◌∷◌, map}
use mathlib.Core.Option.{Option, none, some}
use lib.ListN.{length, drop, length-drop}
use lib.Seq.{drop-length}
use Rattle.table_rows.specs.Row.{Row, covered}
use Rattle.table_play_head.specs.Play.{PlayCall, set, move, play_end, reach, samples_reached, reached, row_at}
use Rattle.table_play_head.specs.Head.{Played, fresh_head, within_at, read_by, walked_to, at_end, move_head, call_head, play, head_after, head_on, played_at, HeadMade}
use Rattle.table_play_head.specs.declared.PlayHead.{PlayHead}
use Rattle.table_play_head.proofs.Walk.{row-onward, offset_onward, index-named, row-covers, row-end}

-- the end, as a head sees it from the rows that are left
module _ (bound : Option ℕ) (rows : List Row) (k : ℕ) where
  rest_some : k < covered rows → (drop (row_at rows k) rows ≡ []) → ⊥
  rest_some h e = omega (arith, row-covers rows k h, simp length-drop at (ap length e))

  rest-none : covered rows ≤ k → drop (row_at rows k) rows ≡ []
  rest-none h = rw (row-end rows k h) (drop-length rows)

  at-end : play_end bound rows ≤ k → at_end bound k (drop (row_at rows k) rows) ≡ true
  at-end h = by bound (drop (row_at rows k) rows) h rest-none
    where
      by : (b : Option ℕ) (rest : List Row) → play_end b rows ≤ k → (covered rows ≤ k → rest ≡ []) → at_end b k rest ≡ true
      by b [] h e = refl
      by none (r ∷ rs) h e = absurd (omega (arith, ap length (e h)))
      by (some last) (r ∷ rs) h e =
          elim (dec_lt k (covered rows)) [
            | yes l ↦ le-leb last k (omega arith)
            | no l ↦ absurd (omega (arith, ap length (e (omega arith))))
          ]

  before-end : k < play_end bound rows → at_end bound k (drop (row_at rows k) rows) ≡ false
  before-end h = by bound (drop (row_at rows k) rows) h rest_some
    where
      by : (b : Option ℕ) (rest : List Row) → k < play_end b rows → (k < covered rows → rest ≡ [] → ⊥) → at_end b k rest ≡ false
      by none [] h e = absurd (e h refl)
      by (some last) [] h e = absurd (e (omega arith) refl)
      by none (r ∷ rs) h e = refl
      by (some last) (r ∷ rs) h e = lt-leb last k (omega arith)

-- a head is its four numbers
pub same_head : {a b : ℕ} {i j v w : ℕ} → a ≡ b → i ≡ j → v ≡ w
    → ◌≡◌ {A = PlayHead} (record { fresh = false; sample = a; row = i; within = v }) (record { fresh = false; sample = b; row = j; within = w })
same_head p q r t = record { fresh = false; sample = p t; row = q t; within = r t }

module _ (rows : List Row) where
  pub read_at : (k : ℕ) {h : PlayHead} → h ≡ head_on rows k → read_by rows h ≡ played_at rows k
  read_at k e = ap (read_by rows) e ∙ (λ t. record { head = head_on rows k; index = index-named rows k t })

  walked_at : (k : ℕ) → walked_to k 0 rows k ≡ head_on rows k
  walked_at k = same_head refl (zero-add (row_at rows k)) refl

  onward-at : (k : ℕ) → walked_to (suc k) (row_at rows k) (drop (row_at rows k) rows) (suc (within_at rows k)) ≡ head_on rows (suc k)
  onward-at k =
      same_head refl (sym (rw (add-one k, add-one (within_at rows k)) at (row-onward rows k 1))) (sym (rw (add-one k, add-one (within_at rows k)) at (offset_onward rows k 1)))

module _ (bound : Option ℕ) (rows : List Row) where
  -- each call gives what is due at the sample that it reaches
  move_at : (k : ℕ) → k ≤ play_end bound rows → move_head bound rows (head_on rows k) ≡ played_at rows (min (suc k) (play_end bound rows))
  move_at k h =
      elim (dec_lt k (play_end bound rows)) [
        | yes l ↦
            let e : min (suc k) (play_end bound rows) ≡ suc k = omega arith in
            rw (e, before-end bound rows k l) (read_at rows (suc k) (onward-at rows k))
        | no l ↦
            let e : min (suc k) (play_end bound rows) ≡ k = omega arith in
            rw (e, at-end bound rows k (omega arith)) (read_at rows k refl)
      ]

  pub call-gives : (at : Option ℕ) {h : PlayHead} (c : PlayCall) → HeadMade bound rows at h → call_head bound rows h c ≡ played_at rows (reach (play_end bound rows) at c)
  call-gives at (set k) m = let to = min k (play_end bound rows) in read_at rows to (walked_at rows to)
  call-gives none move m = rw m.stands (read_at rows 0 (walked_at rows 0))
  call-gives (some k) move m = rw m.stands (move_at k m.inside)

  pub reach-inside : (at : Option ℕ) (c : PlayCall) → reach (play_end bound rows) at c ≤ play_end bound rows
  reach-inside at (set k) = omega arith
  reach-inside none move = omega arith
  reach-inside (some k) move = omega arith

  -- so each call leaves a head that is made by calls
  pub call-made : (at : Option ℕ) {h : PlayHead} (c : PlayCall) → HeadMade bound rows at h → HeadMade bound rows (some (reach (play_end bound rows) at c)) (call_head bound rows h c).head
  call-made at c m = record { inside = reach-inside at c; stands = ap (λ (s : Played). s.head) (call-gives at c m) }

  pub fresh_made : HeadMade bound rows none fresh_head
  fresh_made = record { inside = omega arith; stands = refl }

  pub made_after : (at : Option ℕ) {h : PlayHead} (cs : List PlayCall) → HeadMade bound rows at h → HeadMade bound rows (reached (play_end bound rows) at cs) (head_after bound rows h cs)
  unfolding reached head_after
  made_after at [] m = m
  made_after at (c ∷ cs) m = made_after (some (reach (play_end bound rows) at c)) cs (call-made at c m)

  pub play-made : (at : Option ℕ) {h : PlayHead} (cs : List PlayCall) → HeadMade bound rows at h → play bound rows h cs ≡ map (played_at rows) (samples_reached (play_end bound rows) at cs)
  unfolding play samples_reached
  play-made at [] m = refl
  play-made at (c ∷ cs) m = λ t. call-gives at c m t ∷ play-made (some (reach (play_end bound rows) at c)) cs (call-made at c m) t

  -- every answer is the lookup's at the sample reached, and the head names the row that covers it
  pub play-lookup : (cs : List PlayCall) → play bound rows fresh_head cs ≡ map (played_at rows) (samples_reached (play_end bound rows) none cs)
  play-lookup cs = play-made none cs fresh_made
