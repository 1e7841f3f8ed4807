-- What the group of a sample is good for: its index is the one that lookup gives over the rows of the same table, its kind that of the sample's meaning,
-- and its entry's bytes those of the entry.
use mathlib.Core.Path.{◌≡◌, ap, sym, ◌∙◌}
use mathlib.Core.List.{List, []}
use Prim.Native.Nat.{ℕ, zero, suc, ◌-◌, ◌≤◌, ◌<◌}
use native.Mathlib.Decide.{dec_lt}
use native.Mathlib.Omega.{arith}
use borrow.Author.Tests.{lt-ltb, le-ltb}
use lib.ListN.{length, get_or}
use Rattle.base_fields.specs.Answer.{given}
use Rattle.base_fields.specs.Span.{Span, bytes_at}
use Rattle.base_fields.proofs.Answers.{given_inj, given-first}
use Rattle.group_entries.specs.Layout.{decode}
use Rattle.table_rows.specs.Row.{index_at}
use Rattle.table_rows.specs.Pattern.{Pattern, index_of}
use Rattle.table_needed.specs.Needed.{unlimited}
use Rattle.listing_theorem.specs.Meaning.{Meaning}
use Rattle.listing_theorem.specs.Samples.{meaning_of}
use Rattle.listing_theorem.specs.Listing.{kind}
use Rattle.listing_spec.specs.Group.{Group, group_taken}
use Rattle.listing_spec.specs.Meanings.{entries_in, meaning_in}
use Rattle.listing_spec.proofs.Tables.{table-patterned}
use Rattle.listing_spec.proofs.Group.{opened, patterns-in, entries-in}
use Rattle.use_sample_group.specs.SampleGroup.{Grouped, entry, group_kind, group_index_of, entry_places, group_of, sample_group}
use Rattle.use_sample_group.proofs.Found.{group_index, group_leads}
use Rattle.use_sample_group.proofs.Placed.{described, entries-many, place-bytes}
use Rattle.use_sample_group.proofs.From.{led}

-- the kind of an index, where its entry decodes
kind-of : (t : ℕ) (places : List Span) (entries : List (List ℕ)) → length entries ≡ length places
    → (i : ℕ) {m : Meaning} → meaning_of t entries i ≡ given m → group_kind (group_of places i) ≡ kind m
unfolding meaning_of group_of
kind-of t places entries many zero e = ap kind (given_inj e)
kind-of t places entries many (suc j) e =
    elim (dec_lt j (length places)) [
      | yes h ↦
          let l : j < length entries = omega (arith, many) in
          let value = given-first (decode t (get_or entries j [])) _ (rw (lt-ltb j (length entries) l) at e) in
          rw (lt-ltb j (length places) h) (ap kind (given_inj value.2))
      | no h ↦
          let l : length entries ≤ j = omega (arith, many) in
          let k : length places ≤ j = omega arith in
          rw (le-ltb j (length places) k) (ap kind (given_inj (rw (le-ltb j (length entries) l) at e)))
    ]

module _ (s : List ℕ) (t k : ℕ) {x : Grouped} (e : sample_group s t k ≡ given x) where
  -- whatever records the rows were read into
  pub group-lookup : (room : ℕ) {g : Group} → group_taken s t room ≡ given g → group_index_of x ≡ index_at g.rows k
  group-lookup room {g} taken =
      let l = led s t k e in
      let o = opened s t room taken in
      let same : l.group.patterns ≡ g.patterns = sym (patterns-in s t unlimited l.taken) ∙ patterns-in s t room taken in
      ap group_index_of (sym l.told) ∙ group_index (entry_places s t) (index_of l.group.patterns k)
      ∙ ap (λ (ps : List Pattern). index_of ps k) same ∙ sym ((table-patterned s room o.taken.table o.parsed).index k)

  -- where the sample's entry decodes
  pub group-kind : {m : Meaning} → meaning_in s t k ≡ given m → group_kind x ≡ kind m
  group-kind {m} meant =
      let l = led s t k e in
      let d = described s t unlimited l.taken in
      let same : meaning_of t l.group.entries (index_of l.group.patterns k) ≡ given m =
      rw (patterns-in s t unlimited l.taken, entries-in s t unlimited l.taken) at meant in
      ap group_kind (sym l.told) ∙ kind-of t (entry_places s t) l.group.entries (entries-many s t unlimited d) (index_of l.group.patterns k) same

-- an entry is the one of its index, counted from 1, among the taken sgpd's: its bytes
pub record HasEntry (s : List ℕ) (t i : ℕ) (part : List ℕ) : Type 0 where
  pub some : 1 ≤ i
  pub within : i ≤ length (entries_in s t)
  pub bytes : part ≡ get_or (entries_in s t) (i - 1) []

pub group-bytes : (s : List ℕ) (t k : ℕ) {i : ℕ} {b : Span} → sample_group s t k ≡ given (entry i b) → HasEntry s t i (bytes_at s b)
group-bytes s t k {i} {b} e =
    let l = led s t k e in
    let d = described s t unlimited l.taken in
    let to = group_leads (entry_places s t) (index_of l.group.patterns k) l.told in
    let at = place-bytes s t unlimited d (index_of l.group.patterns k - 1) to.there in
    let many = entries-many s t unlimited d in
    let entries = entries-in s t unlimited l.taken in
    record {
      some = omega (arith, to.some, to.index);
      within = rw entries (omega (arith, to.some, to.there, to.index, many));
      bytes = ap (bytes_at s) (sym to.entry) ∙ at ∙ ap (λ (j : ℕ). get_or l.group.entries (j - 1) []) to.index ∙ ap (λ (x : List (List ℕ)). get_or x (i - 1) []) (sym entries);
    }
