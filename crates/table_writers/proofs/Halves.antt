-- Rows put into an output by half bytes: each step, and what all of them leave.
use mathlib.Core.Path.{◌≡◌, refl, ap, ◌∙◌}
use Prim.Native.Nat.{ℕ, zero, suc, ◌+◌, ◌*◌, ◌/◌, ◌%◌, ◌^◌, ◌<◌, ◌≤◌}
use native.Mathlib.Nat.{add-zero, mul-suc}
use native.Mathlib.Omega.{arith}
use mathlib.Core.Bool.{Bool}
use mathlib.Core.List.{List, [], ◌∷◌, ◌++◌, append_assoc, append-nil}
use lib.ListN.{length}
use Rattle.base_fields.specs.Answer.{in_front}
use Rattle.base_fields.specs.Number.{field_bound}
use Rattle.table_rows.specs.Row.{Row}
use Rattle.table_writing.specs.Fields.{Field, field, bit_length, packed}
use Rattle.table_writing.specs.Bodies.{index_bits, pair_fields, index_fields}
use Rattle.table_writing.specs.Remaining.{largest, largest_count}
use Rattle.table_writing.specs.Output.{half_put, number_put}
use Rattle.table_writing.proofs.Parts.{bit_length-both}
use Rattle.table_writing.proofs.Put.{put-half, put-number, half_length, half-low}
use Rattle.table_writers.specs.Runs.{row}
use Rattle.table_writers.specs.Halves.{Free, PutsRuns, pair_put, pairs_put, indices_put}

-- a number leaves the length, and the half byte behind it free
pub number-length : (m h v : ℕ) (out : List ℕ) → length (number_put m h v out) ≡ length out
unfolding number_put
number-length zero h v out = refl
number-length (suc m) h v out = number-length m (h + 1) v (half_put h (v / 2 ^ (4 * m) % 16) out) ∙ half_length h (v / 2 ^ (4 * m) % 16) out

pub number-free : (m h v : ℕ) (out : List ℕ) → h + m ≤ 2 * length out → Free h out → Free (h + m) (number_put m h v out)
unfolding number_put
number-free zero h v out room free = rw add-zero free
number-free (suc m) h v out room free =
    let d = v / 2 ^ (4 * m) % 16 in
    let e : h + suc m ≡ h + 1 + m = omega arith in
    rw e (number-free m (h + 1) v (half_put h d out) (omega (arith, half_length h d out)) (half-low h d out (omega arith)))

-- one row
module _ (n x : ℕ) {rs later : List Row} (e : rs ≡ row n x ∷ later) (each m h : ℕ) (out : List ℕ) (o : PutsRuns rs each m h out) where
  more : each * length rs ≡ each * length later + each
  more = ap (λ (l : List Row). each * length l) e ∙ mul-suc each (length later)

  later-counts : largest_count later < field_bound
  unfolding largest
  later-counts = let b = rw e at o.counts in omega arith

  pub row_room : h + each ≤ 2 * length out
  row_room = omega (arith, more, o.room)

  pub row_put : (after : List ℕ) → length after ≡ length out → Free (h + each) after → PutsRuns later each m (h + each) after
  row_put after same free = record { counts = later-counts; room = omega (arith, more, o.room); width = o.width; free = free }

module _ (m h v : ℕ) (out : List ℕ) where
  pub pair-length : length (pair_put m h v out) ≡ length out
  pair-length = number-length m (h + 1) v (half_put h 1 out) ∙ half_length h 1 out

  pub pair-free : h + (1 + m) ≤ 2 * length out → Free (h + (1 + m)) (pair_put m h v out)
  pair-free room =
      let e : h + (1 + m) ≡ h + 1 + m = omega arith in
      rw e (number-free m (h + 1) v (half_put h 1 out) (omega (arith, half_length h 1 out)) (half-low h 1 out (omega arith)))

pub pairs-length : (m h : ℕ) (rs : List Row) (out : List ℕ) → length (pairs_put m h rs out) ≡ length out
unfolding pairs_put
pairs-length m h [] out = refl
pairs-length m h (r ∷ rs) out = pairs-length m (h + 1 + m) rs (pair_put m h r.count out) ∙ pair-length m h r.count out

-- all rows, behind fields that were written
module _ (m : ℕ) (out : List ℕ) where
  pub pairs-bits : (rs : List Row) → bit_length (pair_fields (4 * m) rs) ≡ 4 * ((1 + m) * length rs)
  unfolding bit_length pair_fields
  pairs-bits [] = omega arith
  pairs-bits (r ∷ rs) = omega (arith, pairs-bits rs, mul-suc (1 + m) (length rs))

  pub pairs-put : (rs : List Row) (fs : List Field) (h : ℕ) → bit_length fs ≡ 4 * h → h + (1 + m) * length rs ≤ 2 * length out →
      pairs_put m h rs (in_front (packed fs) out) ≡ in_front (packed (fs ++ pair_fields (4 * m) rs)) out
  unfolding pairs_put pair_fields bit_length
  pairs-put [] fs h place room = rw append-nil
  pairs-put (r ∷ rs) fs h place room =
      let one = fs ++ (field 4 1 ∷ []) in
      let two = one ++ (field (4 * m) r.count ∷ []) in
      let space = mul-suc (1 + m) (length rs) in
      let at_one : bit_length one ≡ 4 * (h + 1) = omega (arith, bit_length-both fs (field 4 1 ∷ [])) in
      let at-two : bit_length two ≡ 4 * (h + 1 + m) = omega (arith, bit_length-both one (field (4 * m) r.count ∷ [])) in
      let pair : pair_put m h r.count (in_front (packed fs) out) ≡ in_front (packed two) out =
      ap (λ (s : List ℕ). number_put m (h + 1) r.count s) (put-half fs h 1 place (omega arith) out (omega arith))
      ∙ put-number m one (h + 1) r.count at_one out (omega arith) in
      let all : two ++ pair_fields (4 * m) rs ≡ fs ++ (field 4 1 ∷ field (4 * m) r.count ∷ pair_fields (4 * m) rs) = simp append_assoc in
      ap (λ (s : List ℕ). pairs_put m (h + 1 + m) rs s) pair ∙ pairs-put rs two (h + 1 + m) at-two (omega arith) ∙ ap (λ (gs : List Field). in_front (packed gs) out) all

  pub indices-put : (marks : Bool) (rs : List Row) (fs : List Field) (h : ℕ) → bit_length fs ≡ 4 * h → h + m * length rs ≤ 2 * length out →
      indices_put marks m h rs (in_front (packed fs) out) ≡ in_front (packed (fs ++ index_fields marks (4 * m) rs)) out
  unfolding indices_put index_fields bit_length
  indices-put marks [] fs h place room = rw append-nil
  indices-put marks (r ∷ rs) fs h place room =
      let v = index_bits marks (4 * m) r.index in
      let one = fs ++ (field (4 * m) v ∷ []) in
      let space = mul-suc m (length rs) in
      let at_one : bit_length one ≡ 4 * (h + m) = omega (arith, bit_length-both fs (field (4 * m) v ∷ [])) in
      let all : one ++ index_fields marks (4 * m) rs ≡ fs ++ (field (4 * m) v ∷ index_fields marks (4 * m) rs) = simp append_assoc in
      ap (λ (s : List ℕ). indices_put marks m (h + m) rs s) (put-number m fs h v place out (omega arith))
      ∙ indices-put marks rs one (h + m) at_one (omega arith)
      ∙ ap (λ (gs : List Field). in_front (packed gs) out) all

-- a step of the two loops
module _ (n x : ℕ) {rs later : List Row} (e : rs ≡ row n x ∷ later) (m h : ℕ) (out : List ℕ) where
  pub pairs-step : pairs_put m h rs out ≡ pairs_put m (h + 1 + m) later (pair_put m h n out)
  unfolding pairs_put
  pairs-step = rw e refl

  pub pairs-place : h + (1 + m) * length rs ≡ h + 1 + m + (1 + m) * length later
  pairs-place = omega (arith, ap (λ (l : List Row). (1 + m) * length l) e, mul-suc (1 + m) (length later))

  pub indices_step : (marks : Bool) → indices_put marks m h rs out ≡ indices_put marks m (h + m) later (number_put m h (index_bits marks (4 * m) x) out)
  unfolding indices_put
  indices_step marks = rw e refl

-- no row is left
pub pairs_end : {rs : List Row} → rs ≡ [] → (m h : ℕ) (out : List ℕ) → pairs_put m h rs out ≡ out
unfolding pairs_put
pairs_end e m h out = rw e refl

pub indices-end : {rs : List Row} → rs ≡ [] → (marks : Bool) (m h : ℕ) (out : List ℕ) → indices_put marks m h rs out ≡ out
unfolding indices_put
indices-end e marks m h out = rw e refl

pub place_end : {rs : List Row} → rs ≡ [] → (each h : ℕ) → h + each * length rs ≡ h
place_end e each h = omega (arith, ap (λ (l : List Row). each * length l) e)
