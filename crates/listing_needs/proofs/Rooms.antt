-- How the number of lent records changes a group: with as many as its rows it is given, with fewer it is 29, and a refusal stays or gives way to 29.
use mathlib.Core.Path.{◌≡◌, refl, ap, sym, ◌∙◌}
use mathlib.Core.Logic.{inl, ⊎_elim}
use mathlib.Core.List.{List, []}
use Prim.Native.Nat.{ℕ, ◌<◌, ◌≤◌}
use native.Mathlib.Omega.{arith}
use borrow.Author.Tests.{le-ltb}
use lib.Dec.{ltb}
use lib.ListN.{length}
use Rattle.base_fields.specs.Answer.{Answer, given, refused}
use Rattle.base_fields.specs.Span.{bytes_at}
use Rattle.table_rows.specs.Row.{Row, Table}
use Rattle.table_rows.specs.Pattern.{samples_of}
use Rattle.table_rows.proofs.Samples.{covered_by-samples}
use Rattle.table_replay.specs.Replay.{replay}
use Rattle.table_sbgp.specs.Sbgp.{sbgp, entered}
use Rattle.table_sbgp.proofs.Rooms.{sbgp-enough}
use Rattle.table_csgp.proofs.Rooms.{csgp-enough}
use Rattle.table_csgp_head.specs.Csgp.{csgp}
use Rattle.table_needed.specs.Needed.{unlimited}
use Rattle.table_needed.proofs.Covered.{sbgp-few, csgp-few}
use Rattle.listing_spec.specs.Walk.{TakenTable, sbgp_at, csgp_at, sources}
use Rattle.listing_spec.specs.Table.{TableContents, patterns_taken, taken_table}
use Rattle.listing_spec.specs.Group.{Group, group_taken}
use Rattle.listing_spec.proofs.Taken.{parsed_taken, table-read, table-given, table-made}
use Rattle.listing_spec.proofs.Group.{opened, group-given}
use Rattle.listing_spec.proofs.After.{group-fits}
use Rattle.listing_needs.proofs.Replays.{SameOr29, same_then, asked, replay-same}

module _ (s : List ℕ) (room : ℕ) where
  parsed-same : (k : TakenTable) → SameOr29 (parsed_taken s room k) (parsed_taken s unlimited k)
  parsed-same (sbgp_at b) =
      let p = bytes_at s b in
      same_then (sbgp p) (sbgp p) (entered room) (entered unlimited) (inl refl) (λ x e.
      let few : length x.rows ≤ unlimited = omega (arith, sbgp-few p x e) in
      asked (ltb room (length x.rows)) (ltb unlimited (length x.rows)) (given x) (le-ltb unlimited (length x.rows) few))
  parsed-same (csgp_at b) =
      let p = bytes_at s b in
      same_then (csgp p) (csgp p) _ _ (inl refl) (λ ps e.
      same_then (replay room [] (samples_of ps)) (replay unlimited [] (samples_of ps)) _ _
      (replay-same room unlimited (samples_of ps) [] (omega (arith, csgp-few p ps e, covered_by-samples ps))) (λ rows f. inl refl))

  table_same : (k : TakenTable) → SameOr29 (taken_table s room k) (taken_table s unlimited k)
  table_same k =
      rw (table-read s room k, table-read s unlimited k)
      (same_then (patterns_taken s k) (patterns_taken s k) _ _ (inl refl) (λ ps e.
      same_then (parsed_taken s room k) (parsed_taken s unlimited k) _ _ (parsed-same k) (λ x f. inl refl)))

  -- the group is the same, or 29
  pub group-same : (t : ℕ) → SameOr29 (group_taken s t room) (group_taken s t unlimited)
  unfolding group_taken
  group-same t =
      same_then (sources s t) (sources s t) _ _ (inl refl) (λ taken e.
      same_then (taken_table s room taken.table) (taken_table s unlimited taken.table) _ _ (table_same taken.table) (λ table f. inl refl))

  parsed-with : (k : TakenTable) {x : Table} → parsed_taken s unlimited k ≡ given x → length x.rows ≤ room → parsed_taken s room k ≡ given x
  parsed-with (sbgp_at b) e h = sbgp-enough (bytes_at s b) unlimited e room h
  parsed-with (csgp_at b) e h = csgp-enough (bytes_at s b) unlimited e room h

  module _ (t : ℕ) {g : Group} (e : group_taken s t unlimited ≡ given g) where
    pub group-with : length g.rows ≤ room → group_taken s t room ≡ given g
    group-with h =
        let o = opened s t unlimited e in
        let k = o.taken.table in
        let read = table-given s unlimited k o.parsed in
        let with : List Row → Answer TableContents = λ rows. given (record { patterns = g.patterns; rows = rows }) in
        let parsed = parsed-with k read.parsed (omega (arith, ap length read.rows)) in
        group-given s t room o.walked (table-made s room k read.patterned parsed ∙ ap with (sym read.rows)) o.described

    pub group-fewer : room < length g.rows → group_taken s t room ≡ refused 29
    group-fewer h = ⊎_elim {C = group_taken s t room ≡ refused 29} (λ f. absurd (omega (arith, group-fits s t room (f ∙ e)))) (λ f. f) (group-same t)
