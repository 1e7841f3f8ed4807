-- Laws of bytes stored one after the other.
use mathlib.Core.Path.{◌≡◌, refl, sym, ◌∙◌}
use mathlib.Core.List.{List, [], ◌∷◌, ◌++◌}
use Prim.Native.Nat.{ℕ, suc, ◌+◌, ◌^◌, ◌<◌, ◌≤◌}
use native.Mathlib.Nat.{add-zero, zero-add}
use native.Mathlib.Omega.{arith}
use lib.ListN.{length, set, length-append}
use lib.Seq.{set_out, sets, length-sets, sets-eq}
use Rattle.base_fields.specs.Answer.{in_front}
use Rattle.listing_theorem.specs.Groups.{groups}
use Rattle.listing_theorem.proofs.Groups.{groups_induction, groups-length}
use Rattle.listing_numbers.specs.Store.{stored, Puts}

-- the kit's run of stores
stored-sets : (bs : List ℕ) (p : ℕ) (out : List ℕ) → stored bs p out ≡ sets out p bs
unfolding stored
stored-sets [] p out = refl
stored-sets (b ∷ bs) p out = stored-sets bs (suc p) (set out p b)

pub stored_append : (a b : List ℕ) (p : ℕ) (out : List ℕ) → stored (a ++ b) p out ≡ stored b (p + length a) (stored a p out)
unfolding stored
stored_append [] b p out = rw add-zero refl
stored_append (x ∷ a) b p out =
    let e : p + suc (length a) ≡ suc p + length a = omega arith in
    rw e (stored_append a b (suc p) (set out p x))

pub stored-length : (bs : List ℕ) (p : ℕ) (out : List ℕ) → length (stored bs p out) ≡ length out
stored-length bs p out = rw stored-sets (length-sets out p bs)

-- past the end nothing is stored
pub stored_past : (bs : List ℕ) (p : ℕ) (out : List ℕ) → length out ≤ p → stored bs p out ≡ out
unfolding stored
stored_past [] p out h = refl
stored_past (b ∷ bs) p out h = rw (set_out out p b h) (stored_past bs (suc p) out (omega arith))

-- where all of it fits it stands in front
pub stored-front : (bs out : List ℕ) → length bs ≤ length out → stored bs 0 out ≡ in_front bs out
stored-front bs out h = rw stored-sets (sets-eq bs out 0 (omega arith) ∙ rw zero-add refl)

-- one writer after the other
pub puts_then : {a b : List ℕ} {p : ℕ} {o1 o2 o3 : List ℕ} {q r : ℕ} → Puts a p o1 o2 q → Puts b q o2 o3 r → Puts (a ++ b) p o1 o3 r
puts_then {a} {b} {p} {o1} x y =
    record {
      output = y.output ∙ rw (x.output, x.next) (sym (stored_append a b p o1));
      next = omega (arith, length-append a b);
    }

-- every number has a group
pub some-group : (n : ℕ) → 1 ≤ length (groups n)
some-group = groups_induction (λ _ g. 1 ≤ length g) (λ n h. omega arith) (λ n h rest. omega arith)

-- a number below 128 to the k + 1 ends at most k + 1 places on
pub number-near : (k n : ℕ) {p : ℕ} {before after : List ℕ} {behind : ℕ} → Puts (groups n) p before after behind → n < 128 ^ suc k → behind ≤ p + suc k
number-near k n x h = omega (arith, groups-length k n h)

-- any number of 64 bits
pub number-near_64 : (n : ℕ) {p : ℕ} {before after : List ℕ} {behind : ℕ} → Puts (groups n) p before after behind → n < 2 ^ 64 → behind ≤ p + 10
number-near_64 n x h = number-near 9 n x (omega arith)
