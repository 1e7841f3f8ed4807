-- Request A11 of document 02: bodies that differ only in what it lists get the same listing and rows, or the same refusal.
use mathlib.Core.Path.{◌≡◌, refl, ap}
use mathlib.Core.List.{List, [], reverse}
use Prim.Native.Nat.{ℕ}
use native.Mathlib.Omega.{arith}
use lib.Dec.{ltb}
use lib.ListN.{length}
use Rattle.base_fields.specs.Answer.{Answer, given, refuse_if, and_then}
use Rattle.base_fields.specs.Span.{Span, bytes_at}
use Rattle.base_fields.proofs.Bits.{Bytes}
use Rattle.base_fields.proofs.Both.{Both, both_refuse, both-and_then, both-same, both_is}
use Rattle.table_rows.specs.Row.{Row}
use Rattle.table_rows.specs.Pattern.{Pattern, samples_of}
use Rattle.table_replay.specs.Replay.{replay}
use Rattle.table_sbgp.specs.Sbgp.{sbgp, entered}
use Rattle.table_csgp_head.specs.Csgp.{csgp}
use Rattle.group_sgpd.specs.Sgpd.{sgpd}
use Rattle.listing_theorem.specs.Meaning.{Meaning}
use Rattle.listing_theorem.specs.Samples.{meanings}
use Rattle.listing_theorem.specs.Listing.{listing}
use Rattle.listing_spec.specs.Walk.{sbgp_type, csgp_type, sgpd_type, TakenTable, sbgp_at, csgp_at, Sources, sources}
use Rattle.listing_spec.specs.Table.{TableContents, patterns_taken, taken_table, entries_taken}
use Rattle.listing_spec.specs.Group.{Group, group_taken}
use Rattle.listing_spec.specs.Cue.{Cue, cue_listing}
use Rattle.listing_spec.specs.Meanings.{patterns_in}
use Rattle.listing_spec.proofs.Inside.{Stands, body_in, payload-type, sources_stand}
use Rattle.listing_spec.proofs.Taken.{table-given}
use Rattle.listing_indifference.specs.Bits.{Differ}
use Rattle.listing_indifference.specs.Places.{SbgpListed, CsgpListed, SgpdListed}
use Rattle.listing_indifference.specs.Body.{ChildListed, other_kind, in_sbgp, in_csgp, in_sgpd, used_indices, BodyListed, Indifferent}
use Rattle.listing_indifference.proofs.Differ.{differ-refl}
use Rattle.listing_indifference.proofs.Sbgp.{SameTable, sbgp-same}
use Rattle.listing_indifference.proofs.Csgp.{SameSamples}
use Rattle.listing_indifference.proofs.CsgpSame.{csgp-same}
use Rattle.listing_indifference.proofs.Sgpd.{sgpd-same, sgpd-contents}
use Rattle.listing_indifference.proofs.Meanings.{SameUsed, meaning-same, meanings-same, entries-same}
use Rattle.listing_indifference.proofs.Walk.{sources-same}
use Rattle.listing_indifference.proofs.Taken.{Of, TableOf, payload-child, payload-differ, sources-of}

-- tables that give each sample the same index, and the same rows
pub record SameContents (x y : TableContents) : Type 0 where
  pub samples : SameSamples x.patterns y.patterns
  pub rows : x.rows ≡ y.rows

-- groups that mean the same: samples and rows agree, and the entries that a sample uses differ in listed bits only
pub record SameGroup (t : ℕ) (g h : Group) : Type 0 where
  pub samples : SameSamples g.patterns h.patterns
  pub rows : g.rows ≡ h.rows
  pub entries : SameUsed t g.entries h.entries (samples_of g.patterns)

-- the last stage
abbrev last : ℕ → ℕ → List Row → List Meaning → Answer Cue
last t size rows ms = refuse_if (ltb size (length (listing t ms))) 54 (given (record { bytes = listing t ms; rows = rows }))

module _ (t : ℕ) (s s' : List ℕ) (d : Differ (BodyListed s t) s s') where
  abbrev used : List ℕ
  used = used_indices s t

  -- a payload of each kind differs in listed bits only
  sbgp-differ : (b : Span) → Of s sbgp_type b → Differ (SbgpListed t (bytes_at s b)) (bytes_at s b) (bytes_at s' b)
  sbgp-differ b o = payload-differ t s s' d sbgp_type b o (SbgpListed t (bytes_at s b)) pick
    where
      pick : (j : _) → ChildListed s t o.child j → SbgpListed t (bytes_at s b) j
      pick j (other_kind x y z) = absurd (x o.type)
      pick j (in_sbgp k x) = rw (payload-child t s s' d sbgp_type b o) at x
      pick j (in_csgp k x) = absurd (omega (arith, o.type))
      pick j (in_sgpd k x) = absurd (omega (arith, o.type))

  csgp-differ : (b : Span) → Of s csgp_type b → Differ (CsgpListed t used (bytes_at s b)) (bytes_at s b) (bytes_at s' b)
  csgp-differ b o = payload-differ t s s' d csgp_type b o (CsgpListed t used (bytes_at s b)) pick
    where
      pick : (j : _) → ChildListed s t o.child j → CsgpListed t used (bytes_at s b) j
      pick j (other_kind x y z) = absurd (y o.type)
      pick j (in_sbgp k x) = absurd (omega (arith, o.type))
      pick j (in_csgp k x) = rw (payload-child t s s' d csgp_type b o) at x
      pick j (in_sgpd k x) = absurd (omega (arith, o.type))

  sgpd-differ : (b : Span) → Of s sgpd_type b → Differ (SgpdListed t used (bytes_at s b)) (bytes_at s b) (bytes_at s' b)
  sgpd-differ b o = payload-differ t s s' d sgpd_type b o (SgpdListed t used (bytes_at s b)) pick
    where
      pick : (j : _) → ChildListed s t o.child j → SgpdListed t used (bytes_at s b) j
      pick j (other_kind x y z) = absurd (z o.type)
      pick j (in_sbgp k x) = absurd (omega (arith, o.type))
      pick j (in_csgp k x) = absurd (omega (arith, o.type))
      pick j (in_sgpd k x) = rw (payload-child t s s' d sgpd_type b o) at x

  -- the taken table gives the samples
  abbrev Gives : TakenTable → Type 0
  Gives k = (ps : List Pattern) → patterns_taken s k ≡ given ps → used ≡ samples_of ps

  used-are : {taken : Sources} → sources s t ≡ given taken → Gives taken.table
  unfolding patterns_in
  used-are e ps f = simp (e, f)

  table-both : (room : ℕ) (k : TakenTable) → TableOf s k → Stands s t (body_in k) → Gives k → Both SameContents (taken_table s room k) (taken_table s' room k)
  unfolding taken_table patterns_taken
  table-both room (sbgp_at b) o w g =
      both-and_then SameTable SameContents (sbgp (bytes_at s b)) (sbgp (bytes_at s' b)) _ _ (sbgp-same (payload-type s t w) (sbgp-differ b o))
      (λ x y _ _ e. both-and_then SameTable SameContents (entered room x) (entered room y) _ _
      (let n : length x.rows ≡ length y.rows = rw e.rows in
      rw (← n) (both_refuse SameTable (ltb room (length x.rows)) 29 (given x) (given y) (λ _. e)))
      (λ x' y' _ _ f. record { samples = rw f.rows; rows = f.rows }))
  table-both room (csgp_at b) o w g =
      both-and_then SameSamples SameContents (csgp (bytes_at s b)) (csgp (bytes_at s' b)) _ _ (csgp-same (payload-type s t w) (csgp-differ b o) g)
      (λ ps qs _ _ e. rw (← e)
      (both-and_then (λ x y. x ≡ y) SameContents (replay room [] (samples_of ps)) (replay room [] (samples_of ps)) _ _
      (both-same (λ x y. x ≡ y) (λ x. refl) (replay room [] (samples_of ps)))
      (λ x y _ _ f. record { samples = e; rows = ap (λ (r : List Row). reverse r) f })))

  abbrev SameEntries : List (List ℕ) → List (List ℕ) → Type 0
  SameEntries es fs = SameUsed t es fs used

  entries-both : (b : Span) → Of s sgpd_type b → Stands s t b → Both SameEntries (entries_taken s b) (entries_taken s' b)
  unfolding entries_taken
  entries-both b o w =
      let x = sgpd-differ b o in
      let named = payload-type s t w in
      rw (← (sgpd-same named x))
      (both-and_then (λ x y. x ≡ y) SameEntries (sgpd (bytes_at s b)) (sgpd (bytes_at s b)) _ _ (both-same (λ x y. x ≡ y) (λ x. refl) (sgpd (bytes_at s b)))
      (λ es fs g _ e. rw (← e) (entries-same t used (bytes_at s b) (bytes_at s' b) x.first x.second x.long es (sgpd-contents named x g))))

  pub groups-same : (room : ℕ) → Both (SameGroup t) (group_taken s t room) (group_taken s' t room)
  unfolding group_taken
  groups-same room =
      let S : Sources → Sources → Type 0 = λ x y. x ≡ y in
      let G = SameGroup t in
      rw (← (sources-same t s s' d))
      (both-and_then S G (sources s t) (sources s t) _ _ (both-same S (λ x. refl) (sources s t)) (λ taken other e _ is.
      let o = sources-of s t e in
      let w = sources_stand s t e in
      rw (← is)
      (both-and_then SameContents G (taken_table s room taken.table) (taken_table s' room taken.table) _ _
      (table-both room taken.table o.table w.table (used-are e)) (λ x y f _ table.
      let are = used-are e x.patterns (table-given s room taken.table f).patterned in
      both-and_then SameEntries G (entries_taken s taken.sgpd) (entries_taken s' taken.sgpd) _ _ (entries-both taken.sgpd o.sgpd w.sgpd)
      (λ es fs _ _ same. record { samples = table.samples; rows = table.rows; entries = rw are at same })))))

  pub cue-same : (room size : ℕ) → cue_listing s t room size ≡ cue_listing s' t room size
  unfolding cue_listing
  cue-same room size =
      let E : Cue → Cue → Type 0 = λ x y. x ≡ y in
      both_is _ _
      (both-and_then (SameGroup t) E (group_taken s t room) (group_taken s' t room) _ _ (groups-same room) (λ g h _ _ same.
      let ks = samples_of g.patterns in
      let m : meanings t g.entries ks ≡ meanings t h.entries ks =
      meanings-same t g.entries h.entries ks (λ k z. meaning-same t g.entries h.entries same.entries k z) in
      rw (← same.samples, ← m, ← same.rows) (both-same E (λ x. refl) (and_then (meanings t g.entries ks) (last t size g.rows)))))

-- the same type, the same records and output lent
pub indifferent : (t : ℕ) (s s' : List ℕ) → Indifferent t s s' → (room size : ℕ) → cue_listing s t room size ≡ cue_listing s' t room size
indifferent t s s' i room size = cue-same t s s' i.differ room size

-- a body is related to itself
pub indifferent-refl : (t : ℕ) (s : List ℕ) → Bytes s → Indifferent t s s
indifferent-refl t s bytes = record { differ = differ-refl (BodyListed s t) s bytes }
