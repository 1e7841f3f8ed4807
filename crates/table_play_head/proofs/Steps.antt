-- What the code's branches give is what the definitions say.
use mathlib.Core.Path.{◌≡◌, refl, ap, sym, ◌∙◌}
use Prim.Native.Nat.{ℕ, suc, ◌-◌, ◌<◌, ◌≤◌, min}
use native.Mathlib.Decide.{dec_lt}
use native.Mathlib.Omega.{arith}
use borrow.Author.Tests.{le-leb, lt-leb}
use mathlib.Core.Bool.{true, false}
use mathlib.Core.List.{List, [], ◌∷◌}
use mathlib.Core.Option.{Option, none, some}
use lib.ListN.{drop}
use Rattle.base_fields.specs.Answer.{given}
use Rattle.table_rows.specs.Row.{Row, covered}
use Rattle.table_rows.specs.Found.{told_index}
use Rattle.table_play_head.specs.Play.{move, play_end, last_sample, reach, row_at}
use Rattle.table_play_head.specs.Head.{Played, within_at, first_index, read_by, walked_to, at_end, onward, played_at, HeadMade}
use Rattle.table_play_head.specs.Turn.{GivesTurn}
use Rattle.table_play_head.specs.declared.PlayHead.{PlayHead}
use Rattle.table_play_head.specs.declared.Turn.{Turn}
use Rattle.table_play_head.proofs.Walk.{offset_here, offset_later, row-end}
use Rattle.table_play_head.proofs.Play.{same_head, read_at, call-gives}
use Rattle.table_play_head.proofs.Local.{move-local}

-- a move, by cases
module _ (h : PlayHead) (rest : List Row) where
  pub onward_fresh : (bound : Option ℕ) → h.fresh ≡ true → onward bound h rest ≡ walked_to 0 h.row rest 0
  onward_fresh bound f = rw f

  module _ (f : h.fresh ≡ false) where
    pub onward-none : (bound : Option ℕ) → rest ≡ [] → onward bound h rest ≡ h
    onward-none bound e = rw (e, f)

    pub onward-last : {last : ℕ} → last ≤ h.sample → onward (some last) h rest ≡ h
    onward-last {last} l = rw (f, stops rest)
      where
        stops : (rest : List Row) → at_end (some last) h.sample rest ≡ true
        stops [] = refl
        stops (r ∷ rs) = le-leb last h.sample l

    pub onward-next : {r : Row} {rs : List Row} {last : ℕ} → rest ≡ r ∷ rs → h.sample < last → onward (some last) h rest ≡ walked_to (suc h.sample) h.row rest (suc h.within)
    onward-next {r} {rs} {last} e l =
        let goes : at_end (some last) h.sample rest ≡ false = rw e (lt-leb last h.sample l) in
        rw (f, goes)

offset_end : (rows : List Row) (k : ℕ) → covered rows ≤ k → within_at rows k ≡ 0
unfolding covered within_at
offset_end [] k h = refl
offset_end (r ∷ rs) k h = offset_later r rs k (omega arith) ∙ offset_end rs (k - r.count) (omega arith)

-- within a row there are no more samples before a sample than before it in all
offset_below : (rows : List Row) (k : ℕ) → within_at rows k ≤ k
unfolding within_at
offset_below [] k = omega arith
offset_below (r ∷ rs) k =
    elim (dec_lt k r.count) [
      | yes l ↦ omega (arith, offset_here r rs k l)
      | no l ↦ omega (arith, offset_later r rs k (omega arith), offset_below rs (k - r.count))
    ]

made-below : (own : List Row) (at : Option ℕ) {h : PlayHead} → HeadMade last_sample own at h → h.within ≤ h.sample
made-below own none m = rw m.stands (omega arith)
made-below own (some k) m = rw m.stands (offset_below own k)

-- a step is its head and the index of the row that it names
read-by : (rows : List Row) {h : PlayHead} {s : Played} → s.head ≡ h → s.index ≡ first_index (drop s.head.row rows) → s ≡ read_by rows h
read-by rows p q i = record { head = p i; index = (q ∙ ap (λ (t : PlayHead). first_index (drop t.row rows)) p) i }

-- a set: a walk past the end is a walk to the end
pub set-due : (rows : List Row) (k to : ℕ) {row within index : ℕ} → row ≡ row_at rows k → within ≡ within_at rows k → to ≡ min k (covered rows)
    → index ≡ first_index (drop row rows) → record { head = record { fresh = false; sample = to; row = row; within = within }; index = index } ≡ played_at rows to
set-due rows k to p q e i =
    elim (dec_lt (covered rows) k) [
      | yes l ↦
          let g : covered rows ≤ k = omega arith in
          let t : covered rows ≤ to = omega arith in
          read-by rows (same_head refl (p ∙ row-end rows k g ∙ sym (row-end rows to t)) (q ∙ offset_end rows k g ∙ sym (offset_end rows to t))) i ∙ read_at rows to refl
      | no l ↦ let t : k ≡ to = omega arith in read-by rows (same_head refl (rw t at p) (rw t at q)) i ∙ read_at rows to refl
    ]

-- a move of a head made over `own`
pub move-due : (rows own : List Row) (at : Option ℕ) {h : PlayHead} {s : Played} → (h.within ≤ h.sample → s.head ≡ onward last_sample h (drop h.row rows))
    → s.index ≡ first_index (drop s.head.row rows) → HeadMade last_sample own at h → drop h.row own ≡ drop h.row rows
    → s ≡ played_at own (reach (play_end last_sample own) at move)
move-due rows own at {h} p q m e = read-by rows (p (made-below own at m)) q ∙ sym (move-local last_sample h own rows e) ∙ call-gives last_sample own at move m

-- a result that has the parts of a step
pub turns : {s t : Played} {h : PlayHead} {r : Turn} → told_index r.found ≡ given s.index → r.head ≡ s.head → s ≡ t → GivesTurn (given t) h r
turns p q e = record { found = p ∙ ap (λ (s : Played). given s.index) e; head = q ∙ ap (λ (s : Played). s.head) e }
