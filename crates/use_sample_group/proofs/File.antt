-- The group of a sample of a film is that of the body of its track's stbl, and an entry's place leads to the same bytes.
use mathlib.Core.Path.{◌≡◌, refl, ap, sym, subst, ◌∙◌}
use mathlib.Core.List.{List}
use Prim.Native.Nat.{ℕ, ◌≤◌}
use native.Mathlib.Omega.{arith}
use lib.ListN.{length, length-take}
use Rattle.base_fields.specs.Answer.{given}
use Rattle.base_fields.specs.Span.{Span, bytes_at}
use Rattle.base_fields.proofs.Answers.{given_inj, given-first}
use Rattle.atom_path.specs.Path.{stbl_at}
use Rattle.use_sample_group.specs.SampleGroup.{Grouped, outside, missing, entry, group_kind, group_index_of, part_from, group_from, sample_group, file_sample_group}
use Rattle.use_sample_group.proofs.Placed.{part-of-part}
use Rattle.use_sample_group.proofs.From.{group-inside}
use Rattle.use_sample_group.proofs.Laws.{HasEntry, group-bytes}

-- kind and index stay
from-kind : (p : ℕ) (x : Grouped) → group_kind (group_from p x) ≡ group_kind x
from-kind p outside = refl
from-kind p (missing i) = refl
from-kind p (entry i e) = refl

from-index : (p : ℕ) (x : Grouped) → group_index_of (group_from p x) ≡ group_index_of x
from-index p outside = refl
from-index p (missing i) = refl
from-index p (entry i e) = refl

-- an entry was one before
from-entry : (p : ℕ) (x : Grouped) {i : ℕ} {e : Span} → group_from p x ≡ entry i e → (d : Span) × (x ≡ entry i d) × (part_from p d ≡ e)
from-entry p outside f = let z : ◌≡◌ {A = ℕ} 0 2 = ap group_kind f in absurd (omega arith)
from-entry p (missing j) f = let z : ◌≡◌ {A = ℕ} 1 2 = ap group_kind f in absurd (omega arith)
from-entry p (entry j d) {i} {e} f =
    let same : j ≡ i = ap group_index_of f in
    let to : part_from p d ≡ e = cc in
    (d, ap (λ (k : ℕ). entry k d) same, to)

module _ (s : List ℕ) (n t k : ℕ) where
  -- the body that was found, and the sample's group in it
  pub record FileLed (x : Grouped) : Type 0 where
    pub stbl : Span
    pub found : stbl_at s n ≡ given stbl
    pub inner : Grouped
    pub led : sample_group (bytes_at s stbl) t k ≡ given inner
    pub kind : group_kind x ≡ group_kind inner
    pub index : group_index_of x ≡ group_index_of inner
    pub moved : group_from stbl.place inner ≡ x

  pub file_led : {x : Grouped} → file_sample_group s n t k ≡ given x → FileLed x
  unfolding file_sample_group
  file_led e =
      let first = given-first (stbl_at s n) _ e in
      let second = given-first (sample_group (bytes_at s first.0) t k) _ first.2 in
      let moved = given_inj second.2 in
      record {
        stbl = first.0;
        found = first.1;
        inner = second.0;
        led = second.1;
        kind = ap group_kind (sym moved) ∙ from-kind first.0.place second.0;
        index = ap group_index_of (sym moved) ∙ from-index first.0.place second.0;
        moved = moved;
      }

  pub file_bytes : {i : ℕ} {e : Span} → file_sample_group s n t k ≡ given (entry i e) → (b : Span) × (stbl_at s n ≡ given b) × HasEntry (bytes_at s b) t i (bytes_at s e)
  file_bytes {i} {e} f =
      let x = file_led f in
      let b = x.stbl in
      let before = from-entry b.place x.inner x.moved in
      let led : sample_group (bytes_at s b) t k ≡ given (entry i before.0) = x.led ∙ ap given before.1 in
      let short : length (bytes_at s b) ≤ b.size = simp length-take (omega arith) in
      let same = part-of-part s b before.0 (omega (arith, group-inside (bytes_at s b) t k led, short)) in (
        b,
        x.found,
        subst (λ (part : List ℕ). HasEntry (bytes_at s b) t i part) (same ∙ ap (bytes_at s) before.2) (group-bytes (bytes_at s b) t k led),
      )
