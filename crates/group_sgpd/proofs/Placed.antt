-- Entries of a payload that was read whole, written one after the other into a lent run.
use mathlib.Core.Path.{◌≡◌, refl, sym, ◌∙◌}
use mathlib.Core.List.{List}
use Prim.Native.Nat.{ℕ, ◌+◌, ◌-◌, ◌*◌, ◌/◌, ◌≤◌, ◌<◌}
use native.Mathlib.Numerals.{add-one}
use native.Mathlib.Omega.{arith}
use borrow.Author.Tests.{lt-ltb, le-ltb, ne_eqb}
use lib.ListN.{length, get_or, set, take}
use Rattle.std.specs.Prelude.{Result, Ok, Err}
use lib.Seq.{take_all, take-suc, length-take-le}
use Rattle.base_fields.specs.Answer.{given, refused, and_then, overwritten}
use Rattle.base_fields.specs.Records.{numbers_of, GivesRecords}
use Rattle.base_fields.specs.Refusal.{number}
use Rattle.base_fields.specs.declared.refusal.Refusal.{Refusal}
use Rattle.base_fields.specs.declared.refusal.Refusal.TheVariants as refusal
use Rattle.base_fields.specs.Span.{Span}
use Rattle.base_fields.proofs.Answers.{given_inj, refused-given, refused-first}
use Rattle.base_fields.proofs.Records.{in_run, numbers-length, put_next}
use Rattle.group_sgpd.specs.Sgpd.{sgpd, span_at, all_entries, entry_count_place}
use Rattle.group_sgpd.specs.Head.{head_of, after, ReadWhole}
use Rattle.group_sgpd.specs.declared.SgpdHead.{SgpdHead}
use Rattle.group_sgpd.proofs.Entries.{after-add, spans-length}
use Rattle.group_sgpd.proofs.Heads.{count-is, sgpd-given}
use Rattle.group_sgpd.proofs.Onward.{entry-reached}

abbrev place : Span → ℕ
place e = e.place

abbrev size : Span → ℕ
size e = e.size

-- the run with the first k entries in front
abbrev pub placed : List ℕ → List ℕ → ℕ → List ℕ
placed s run k = overwritten (λ es. numbers_of place size (take k es)) (sgpd s) run

module _ {s : List ℕ} {h : SgpdHead} (r : ReadWhole s h) where
  pub entries-count : length r.entries ≡ h.entry_count
  entries-count = spans-length s _ _ (sgpd-given s r.read) ∙ sym (count-is r.head)

  module _ (run : List ℕ) where
    placed-run : (k : ℕ) → placed s run k ≡ in_run place size (take k r.entries) run
    placed-run k = rw (r.read, numbers-length place size (take k r.entries)) refl

    pub placed_first : placed s run 0 ≡ run
    unfolding numbers_of
    placed_first = rw r.read refl

    pub placed-all : placed s run h.entry_count ≡ overwritten (numbers_of place size) (sgpd s) run
    placed-all =
        let b : length r.entries ≤ h.entry_count = omega (arith, entries-count) in
        rw (r.read, take_all h.entry_count r.entries b) refl

  -- entry k, counted from 0, and the place that a walk reaches behind those before it
  module _ (k : ℕ) {q : ℕ} (below : k < h.entry_count) (there : after k s (entry_count_place s + 4) ≡ given q) where
    abbrev no_span : Span
    no_span = record { place = 0; size = 0 }

    entry_here : span_at s q ≡ given (get_or r.entries k no_span)
    entry_here =
        let d : k + 1 - 1 ≡ k = omega arith in
        let z : k + 1 ≡ 0 → ⊥ = (λ u. omega arith) in
        let l : k + 1 ≤ length r.entries = omega (arith, entries-count) in
        sym (entry-reached r (k + 1) (omega arith) (omega (arith, count-is r.head)) (rw d there))
        ∙ rw r.read (simp (ne_eqb _ _ z, le-ltb _ _ l, d))

    pub entry_kept : {n : ℕ} → span_at s q ≡ refused n → ⊥
    entry_kept e = refused-given (sym e ∙ entry_here)

    module _ {e : Span} (g : span_at s q ≡ given e) where
      pub after_next : after (k + 1) s (entry_count_place s + 4) ≡ given (e.place + e.size)
      unfolding after
      after_next = after-add s k 1 (entry_count_place s + 4) ∙ rw (there, g) refl

      pub placed-next : (run : List ℕ) → 2 * h.entry_count ≤ length run →
          set (set (placed s run k) (2 * k) e.place) (2 * k + 1) e.size ≡ placed s run (k + 1)
      placed-next run b =
          let f : get_or r.entries k no_span ≡ e = given_inj (sym entry_here ∙ g) in
          let l : k < length r.entries = omega (arith, entries-count) in
          let n : length (take k r.entries) ≡ k = length-take-le k r.entries (omega arith) in
          let w : 2 * length (take k r.entries) + 1 < length run = omega (arith, n) in
          rw (placed-run run k, placed-run run (k + 1), add-one k, take-suc r.entries k no_span l, f, n)
          (rw n at (put_next place size (take k r.entries) e run w))

-- what entry_places answers
module _ (s before : List ℕ) where
  abbrev Gives : List ℕ → Result ℕ Refusal → Type 0
  Gives after r = GivesRecords (all_entries s before) place size before after r

  pub refusal-kept : (n : Refusal) → and_then (sgpd s) (λ es. given (head_of s)) ≡ refused (number n) → Gives before (Err n)
  refusal-kept n e = rw (refused-first (sgpd s) (λ es. head_of s) e) (record { answer = refl; run = refl })

  module _ {h : SgpdHead} (r : ReadWhole s h) where
    pub no_room : length before / 2 < h.entry_count → Gives before (Err refusal.NoRecordLeft)
    no_room b = rw r.read (simp (entries-count r, lt-ltb _ _ b) (record { answer = refl; run = refl }))

    pub room : (after : List ℕ) → h.entry_count ≤ length before / 2 → after ≡ overwritten (numbers_of place size) (sgpd s) before →
        Gives after (Ok h.entry_count)
    room after b w = rw r.read (simp (entries-count r, le-ltb _ _ b) (record { answer = simp (entries-count r); run = rw r.read at w }))
