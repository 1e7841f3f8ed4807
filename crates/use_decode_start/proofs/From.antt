-- The search of a body, by its group; and what it tells of all samples.
use mathlib.Core.Path.{◌≡◌, refl, ap, sym, subst, ◌∙◌}
use mathlib.Core.Bool.{Bool, true, false}
use mathlib.Core.List.{List}
use mathlib.Core.Option.{Option, none, some, some-injective, none-ne-some}
use Prim.Native.Nat.{ℕ, suc, ◌-◌, ◌≤◌, ◌<◌}
use native.Mathlib.Omega.{arith}
use borrow.Author.Tests.{lt-leb, le-leb}
use lib.Dec.{ltb}
use lib.IntN.{ℤ, pos, negsuc}
use lib.ListN.{take}
use Rattle.base_fields.specs.Answer as answers
use Rattle.base_fields.specs.Answer.{Answer, given, refused, and_then, choose}
use Rattle.base_fields.proofs.Answers.{given_inj, given-first, refused-first}
use Rattle.table_rows.specs.Pattern.{Pattern, samples_of, covered_by}
use Rattle.table_needed.specs.Needed.{unlimited}
use Rattle.table_views.specs.Greatest.{Greatest}
use Rattle.table_views.specs.Used.{Filled, used_in, first_refusal, up_to_frame}
use Rattle.table_views.specs.Search.{begin, clean, Begins, best_by_positions}
use Rattle.table_views.proofs.Cut.{up_to-refusal}
use Rattle.table_views.proofs.Search.{best-by_positions}
use Rattle.table_views.proofs.Wanted.{best-up_to}
use Rattle.listing_meanings.specs.Meant.{meaning_in}
use Rattle.listing_meanings.proofs.Checking.{refusal-in}
use Rattle.listing_theorem.specs.Samples.{meaning_of}
use Rattle.listing_spec.specs.Table.{entries_of}
use Rattle.listing_spec.specs.Group.{Group, group_taken}
use Rattle.use_decode_start.specs.Start.{distance_told, distance_of, searched_to, GivesStart}
use Rattle.use_decode_start.specs.Inner.{distance_in, searched_in}
use Rattle.use_decode_start.specs.From.{searched_by, StartsBy, GivesBy}

module _ (s : List ℕ) (t wanted : ℕ) where
  pub group-refused : {n : ℕ} → group_taken s t unlimited ≡ refused n → searched_to s t wanted ≡ refused n
  unfolding searched_to
  group-refused e = rw e

  pub group-searched : {g : Group} → group_taken s t unlimited ≡ given g → searched_to s t wanted ≡ searched_by t wanted g
  unfolding searched_to searched_by
  group-searched e = rw e

  -- an answer by what the search told
  pub gives-start : {told : Answer Group} → searched_to s t wanted ≡ told → (a : Answer ℕ) → GivesBy told t wanted a → GivesStart s t wanted a
  gives-start e (given b) g = record { group = g.group; told = e ∙ g.told; greatest = g.greatest }
  gives-start e answers.none g = record { group = g.group; told = e ∙ g.told; greatest = g.greatest }
  gives-start e (refused n) g = e ∙ g

-- once all is read
module _ (t wanted : ℕ) (g : Group) where
  pub not_covered : covered_by g.patterns ≤ wanted → searched_by t wanted g ≡ refused 62
  unfolding searched_by
  not_covered h = rw (le-leb (covered_by g.patterns) wanted h) refl

  decoders : {a : Answer Unit} → wanted < covered_by g.patterns → first_refusal (meaning_of t g.entries) (take (suc wanted) (samples_of g.patterns)) ≡ a
      → searched_by t wanted g ≡ and_then a (λ u. given g)
  unfolding searched_by
  decoders h e = rw (lt-leb (covered_by g.patterns) wanted h, e) refl

-- a sample begins at or before it is clean
begin-early : (d : ℤ) (k b : ℕ) → begin d k ≡ some b → b ≤ clean d k
unfolding begin clean
begin-early (pos n) k b e = omega (arith, some-injective k b e)
begin-early (negsuc n) k b e = by (ltb k (suc n)) e
  where
    by : (x : Bool) → choose x none (some (k - suc n)) ≡ some b → b ≤ k
    by true e = absurd (none-ne-some b e)
    by false e = omega (arith, some-injective (k - suc n) b e)

pub begins-early : {dist : ℕ → Option ℤ} {wanted : ℕ} {l : List ℕ} {b : ℕ} → Begins dist wanted l b → b ≤ wanted
begins-early {b = b} c = let m = c.member in omega (arith, begin-early m.distance c.sample b m.begins, m.cleans)

-- what the search along the cut patterns tells of all samples
module _ (t wanted : ℕ) (s : List ℕ) (g : Group) (filled : Filled g.patterns) (read : entries_of s ≡ given g.entries) (enough : wanted < covered_by g.patterns) where
  abbrev cut_all : List Pattern
  cut_all = up_to_frame wanted g.patterns

  refusals : first_refusal (meaning_of t g.entries) (take (suc wanted) (samples_of g.patterns)) ≡ first_refusal (meaning_in t s) (used_in cut_all)
  refusals = up_to-refusal g.patterns filled wanted (meaning_of t g.entries) ∙ sym (refusal-in t s read (used_in cut_all))

  pub told-refused : {n : ℕ} → refused n ≡ searched_in t s wanted cut_all → searched_by t wanted g ≡ refused n
  told-refused e = decoders t wanted g enough (refusals ∙ refused-first (first_refusal (meaning_in t s) (used_in cut_all)) (λ u. best_by_positions (distance_in t s) wanted cut_all) (sym e))

  distances : distance_in t s ≡ distance_of t g.entries
  unfolding distance_of
  distances = ap {B = ℕ → Option ℤ} (λ (x : Answer (List (List ℕ))) (i : ℕ). distance_told (and_then x (λ es. meaning_of t es i))) read

  pub told-given : {o : Option ℕ} → given o ≡ searched_in t s wanted cut_all → StartsBy (searched_by t wanted g) t wanted o
  told-given {o} e =
      let all = samples_of g.patterns in
      let first = given-first (first_refusal (meaning_in t s) (used_in cut_all)) (λ u. given (best_by_positions (distance_in t s) wanted cut_all)) (sym e) in
      let found : best_by_positions (distance_in t s) wanted g.patterns ≡ o = sym (best-up_to (distance_in t s) wanted g.patterns filled) ∙ given_inj first.2 in
      record {
        group = g;
        told = decoders t wanted g enough (refusals ∙ first.1);
        greatest =
            subst (λ (d : ℕ → Option ℤ). Greatest (Begins d wanted all) o) distances
            (subst (λ (x : Option ℕ). Greatest (Begins (distance_in t s) wanted all) x) found (best-by_positions (distance_in t s) wanted g.patterns filled));
      }
