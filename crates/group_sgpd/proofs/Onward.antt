-- A cursor over the entries of a payload that was read whole.
use mathlib.Core.Path.{◌≡◌, refl, sym, ◌∙◌}
use mathlib.Core.List.{List}
use Prim.Native.Nat.{ℕ, ◌+◌, ◌-◌, ◌≤◌, ◌<◌}
use native.Mathlib.Omega.{arith}
use lib.ListN.{length}
use Rattle.base_fields.specs.Answer.{Answer, given, none, refused, and_then}
use Rattle.group_sgpd.specs.Sgpd.{sgpd, entry_count_of, span_at, pick, entry_at, entry_count_place}
use Rattle.base_fields.specs.Span.{Span}
use Rattle.group_sgpd.specs.Head.{head_of, after, HeadOf, ReadWhole, OnEntry}
use Rattle.group_sgpd.specs.declared.SgpdHead.{SgpdHead}
use Rattle.group_sgpd.specs.declared.EntryCursor.{EntryCursor}
use Rattle.group_sgpd.proofs.Entries.{after-inside, after-add, spans-after, spans-pick, spans-none}
use Rattle.group_sgpd.proofs.ByNumber.{pick-unrefused}
use Rattle.group_sgpd.proofs.Heads.{head_of_lem, sgpd-head, first-is, sgpd-spans, sgpd-given}

-- the answer of read_sgpd, where it gives a head
pub read_whole : (s : List ℕ) {h : SgpdHead} → and_then (sgpd s) (λ es. given (head_of s)) ≡ given h → ReadWhole s h
read_whole s {h} e = of (sgpd s) refl e
  where
    of : (x : Answer (List Span)) → sgpd s ≡ x → and_then x (λ es. given (head_of s)) ≡ given h → ReadWhole s h
    of (given es) r e = record { head = head_of_lem s (sgpd-head s r ∙ e); entries = es; read = r }
    of none r e = absurd (let z : ◌≡◌ {A = ℕ} 0 1 = cc in omega arith)
    of (refused n) r e = absurd (let z : ◌≡◌ {A = ℕ} 0 1 = cc in omega arith)

-- the place behind entries is within the payload
pub first-inside : {s : List ℕ} {h : SgpdHead} → HeadOf s h → (m : ℕ) {q : ℕ} → after m s (entry_count_place s + 4) ≡ given q → q ≤ length s
first-inside {s} o m e = after-inside s m (entry_count_place s + 4) (rw (first-is o) at o.inside) e

module _ (s : List ℕ) {c : EntryCursor} (on : OnEntry s c) where
  -- from the cursor on to entry i
  pub onward : (i : ℕ) → c.index.0 ≤ i → after (i - 1) s (entry_count_place s + 4) ≡ after (i - c.index.0) s c.place
  onward i h =
      let e : c.index.0 - 1 + (i - c.index.0) ≡ i - 1 = omega (arith, on.number) in
      (rw e at (after-add s (c.index.0 - 1) (i - c.index.0) (entry_count_place s + 4))) ∙ rw on.place refl

module _ {s : List ℕ} {h : SgpdHead} (r : ReadWhole s h) (i : ℕ) where
  -- the place behind all entries is there
  all_there : {B : Type 0} (y : Answer B) → and_then (after (entry_count_of s) s (entry_count_place s + 4)) (λ q. y) ≡ y
  all_there y = sym (spans-after s (entry_count_of s) (entry_count_place s + 4) y) ∙ rw (sgpd-given s r.read) refl

  pub entry-none : (0 < i → entry_count_of s < i) → entry_at s i ≡ none
  entry-none o = rw (sgpd-spans s r.head.read) (spans-none s (entry_count_of s) i (entry_count_place s + 4) o ∙ all_there none)

  module _ (a : 0 < i) (b : i ≤ entry_count_of s) where
    picked : entry_at s i ≡ and_then (after (i - 1) s (entry_count_place s + 4)) (λ q. and_then (after (entry_count_of s - (i - 1)) s q) (λ e. span_at s q))
    picked = rw (sgpd-spans s r.head.read) (spans-pick s (entry_count_of s) i (entry_count_place s + 4) a b)

    -- and so is the place of each
    pub entry-unrefused : {m : ℕ} → after (i - 1) s (entry_count_place s + 4) ≡ refused m → ⊥
    entry-unrefused {m} e =
        let f : pick r.entries i ≡ refused m = (rw r.read at picked) ∙ rw e refl in
        rw f at (pick-unrefused r.entries i)

    pub entry-reached : {q : ℕ} → after (i - 1) s (entry_count_place s + 4) ≡ given q → entry_at s i ≡ span_at s q
    entry-reached {q} e =
        let d : i - 1 + (entry_count_of s - (i - 1)) ≡ entry_count_of s = omega arith in
        let t : after (entry_count_of s) s (entry_count_place s + 4) ≡ after (entry_count_of s - (i - 1)) s q =
        (rw d at (after-add s (i - 1) (entry_count_of s - (i - 1)) (entry_count_place s + 4))) ∙ rw e refl in
        picked ∙ rw (e, ← t) (all_there (span_at s q))
