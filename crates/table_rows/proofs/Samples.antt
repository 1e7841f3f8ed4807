-- Rows and patterns against the list of the index of each sample.
use mathlib.Core.Path.{◌≡◌, refl, ap, sym, ◌∙◌}
use Prim.Native.Nat.{ℕ, zero, suc, ◌+◌, ◌-◌, ◌<◌}
use native.Mathlib.Nat.{add-zero, zero-add, add-suc, suc-add, mod-one}
use native.Mathlib.Decide.{dec_lt}
use native.Mathlib.Omega.{arith}
use borrow.Author.Tests.{lt-ltb, le-ltb}
use mathlib.Core.List.{List, [], ◌∷◌, ◌++◌, map, append_assoc}
use lib.Dec.{ltb}
use lib.ListN.{length, get_or, replicate, length-append, length-replicate, get_or-replicate, get_or-append}
use lib.Seq.{get_or-append-add}
use Rattle.base_fields.specs.Answer.{choose}
use Rattle.table_rows.specs.Row.{Row, covered, index_at, expand}
use Rattle.table_rows.specs.Pattern.{Pattern, index_in, samples_from, samples_of, covered_by, index_of, single}

-- a lookup past n samples of a first part: the index v that the part gives sample k, or what follows
at_part : {n : ℕ} (xs ys : List ℕ) (k v : ℕ) → length xs ≡ n → (k < n → get_or xs k 0 ≡ v) → choose (ltb k n) v (get_or ys (k - n) 0) ≡ get_or (xs ++ ys) k 0
at_part {n} xs ys k v e at =
    elim (dec_lt k n) [
      | yes l ↦ rw (lt-ltb k n l, get_or-append xs ys 0 k (omega arith)) (sym (at l))
      | no l ↦
          let d : length xs + (k - n) ≡ k = omega arith in
          rw (le-ltb k n (omega arith)) (sym (get_or-append-add xs ys (k - n) 0) ∙ ap (λ (j : ℕ). get_or (xs ++ ys) j 0) d)
    ]

pub index_at-expand : (rs : List Row) (k : ℕ) → index_at rs k ≡ get_or (expand rs) k 0
unfolding index_at expand
index_at-expand [] k = refl
index_at-expand (r ∷ rs) k =
    let n = r.count in
    rw (index_at-expand rs (k - n)) (at_part (replicate n r.index) (expand rs) k r.index (length-replicate n _) (get_or-replicate n k _ 0))

pub covered-expand : (rs : List Row) → covered rs ≡ length (expand rs)
unfolding covered expand
covered-expand [] = refl
covered-expand (r ∷ rs) = rw (length-append, length-replicate, covered-expand rs)

pub expand_append : (a b : List Row) → expand (a ++ b) ≡ expand a ++ expand b
unfolding expand
expand_append [] b = refl
expand_append (r ∷ a) b = rw (append_assoc, expand_append a b)

pub samples_from-length : (p : Pattern) (k n : ℕ) → length (samples_from p k n) ≡ n
unfolding samples_from
samples_from-length p k zero = refl
samples_from-length p k (suc n) = ap suc (samples_from-length p (suc k) n)

pub covered_by-samples : (ps : List Pattern) → covered_by ps ≡ length (samples_of ps)
unfolding covered_by samples_of
covered_by-samples [] = refl
covered_by-samples (p ∷ ps) = rw (length-append, samples_from-length, covered_by-samples ps)

pub samples_from-at : (p : Pattern) (k : ℕ) {n j : ℕ} → j < n → get_or (samples_from p k n) j 0 ≡ index_in p (k + j)
unfolding samples_from
samples_from-at p k {n = zero} {j} h = absurd (omega arith)
samples_from-at p k {n = suc n} {j = zero} h = rw add-zero
samples_from-at p k {n = suc n} {j = suc j} h = rw (add-suc, ← suc-add k j) (samples_from-at p (suc k) {n = n} (omega arith))

pub index_of-samples : (ps : List Pattern) (k : ℕ) → index_of ps k ≡ get_or (samples_of ps) k 0
unfolding index_of samples_of
index_of-samples [] k = refl
index_of-samples (p ∷ ps) k =
    let n = p.count in
    rw (index_of-samples ps (k - n))
    (at_part (samples_from p 0 n) (samples_of ps) k (index_in p k) (samples_from-length p 0 n) (λ h. samples_from-at p 0 h ∙ rw zero-add refl))

pub samples_from-add : (p : Pattern) (k m n : ℕ) → samples_from p k (m + n) ≡ samples_from p k m ++ samples_from p (k + m) n
unfolding samples_from
samples_from-add p k zero n = rw (zero-add, add-zero)
samples_from-add p k (suc m) n = rw (suc-add, add-suc, ← suc-add k m, samples_from-add p (suc k) m n)

-- a run: n samples of one index
pub samples_from-run : (p : Pattern) (k n : ℕ) {i : ℕ} → ((j : ℕ) → j < n → index_in p (k + j) ≡ i) → samples_from p k n ≡ replicate n i
unfolding samples_from
samples_from-run p k zero same = refl
samples_from-run p k (suc n) {i} same =
    let e : index_in p k ≡ i = rw add-zero at (same 0 (omega arith)) in
    rw (e, samples_from-run p (suc k) n {i = i} (λ j h. rw suc-add (rw add-suc at (same (suc j) (omega arith)))))

pub samples-single : (rs : List Row) → samples_of (map single rs) ≡ expand rs
unfolding samples_of expand index_in
samples-single [] = refl
samples-single (r ∷ rs) = rw (samples-single rs, samples_from-run (single r) 0 r.count {i = r.index} (λ j h. rw mod-one))
