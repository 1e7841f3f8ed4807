-- From what the readers tell of a payload to its plan.
use mathlib.Core.Path.{◌≡◌, refl, sym}
use Prim.Native.Nat.{ℕ, ◌≤◌, ◌<◌}
use native.Mathlib.Omega.{arith}
use borrow.Author.Tests.{lt-ltb, le-ltb}
use mathlib.Core.List.{List, []}
use lib.ListN.{length, length-reverse}
use Rattle.std.specs.Prelude.{Ok}
use Rattle.base_fields.specs.Answer.{Answer, given, refused}
use Rattle.table_rows.specs.Row.{Row, Table}
use Rattle.table_rows.specs.Found.{told_table}
use Rattle.table_replay.specs.Replay.{replay}
use Rattle.table_replay.proofs.Replay.{replay-room}
use Rattle.table_sbgp.specs.Sbgp.{parse_sbgp}
use Rattle.table_sbgp.specs.Head.{SbgpLaid, sbgp_table}
use Rattle.table_sbgp.specs.declared.SbgpHead.{SbgpHead}
use Rattle.table_sbgp.proofs.Table.{read_rows-length}
use Rattle.table_csgp.specs.Rows.{rows_for}
use Rattle.table_csgp.specs.Table.{parse_csgp}
use Rattle.table_csgp.proofs.Parse.{parse_rows}
use Rattle.table_csgp_head.specs.Head.{CsgpLaid}
use Rattle.table_csgp_head.specs.declared.CsgpHead.{CsgpHead}
use Rattle.table_runs.specs.declared.SampleTable.TheVariants as table
use Rattle.table_runs.proofs.Sampled.{ahead-all}
use Rattle.table_structs.specs.Stream.{samples_held, GivesFirst}
use Rattle.table_structs.specs.Plan.{GivesPlan}
use Rattle.table_structs.specs.declared.plan.Plan.{Plan}
use Rattle.table_structs.specs.declared.stream.RowCursor.{RowCursor}
use Rattle.table_structs.proofs.Joined.{replay-joined}

-- a refusal plans no rows
pub plan-refused : (told : Answer Table) (s : List ℕ) (room n : ℕ) (p : Plan) → told ≡ refused n → (told_table p.answer ≡ refused n) × (p.count ≡ 0) → GivesPlan told s room p
plan-refused told s room n p e a =
    rw e
    (record {
      answer = a.0;
      count = a.1;
      fits = omega (arith, a.1);
      rows = λ h. absurd (omega (arith, a.1));
      joins = λ h. absurd (omega (arith, a.1));
    })

module _ (s : List ℕ) (room : ℕ) where
  module _ (h : SbgpHead) (l : SbgpLaid s h) where
    pub sbgp_no_room : room < h.entry_count → parse_sbgp s room ≡ refused 29
    sbgp_no_room b = rw l.table (simp (read_rows-length h.entry_count s h.first, lt-ltb _ _ b))

    sbgp-given : h.entry_count ≤ room → parse_sbgp s room ≡ given (sbgp_table s h)
    sbgp-given b = rw l.table (simp (read_rows-length h.entry_count s h.first, le-ltb _ _ b))

    abbrev sbgp_plan : RowCursor → Plan
    sbgp_plan c =
        record {
          answer = Ok (record { grouping_type = h.grouping_type; grouping_type_parameter = h.grouping_type_parameter; entry_count = h.entry_count });
          count = h.entry_count;
          table = table.Rows h;
          first = c;
        }

    pub plan-rows : (c : RowCursor) → h.entry_count ≤ room → GivesFirst s (table.Rows h) c → GivesPlan (parse_sbgp s room) s room (sbgp_plan c)
    plan-rows c b e =
        let n = read_rows-length h.entry_count s h.first in
        rw (sbgp-given b)
        (record {
          answer = simp n;
          count = sym n;
          fits = b;
          rows = λ p. rw e refl;
          joins = λ p. rw e (l.inside, l.short);
        })

  module _ (h : CsgpHead) (l : CsgpLaid s h) where
    abbrev csgp_plan : RowCursor → ℕ → Plan
    csgp_plan c n =
        record {
          answer = Ok (record { grouping_type = h.grouping_type; grouping_type_parameter = h.grouping_type_parameter; entry_count = n });
          count = n;
          table = table.Patterns h;
          first = c;
        }

    module _ (c : RowCursor) (first : GivesFirst s (table.Patterns h) c) (n : ℕ) (out : List Row) (e : rows_for s room ≡ given out) (count : n ≡ length out) where
      replays : replay room [] (samples_held s (table.Patterns h) c) ≡ given out
      replays = rw (← first.samples, ahead-all s (table.Patterns h)) (rw l.patterns at e)

      pub plan-patterns : GivesPlan (parse_csgp s room) s room (csgp_plan c n)
      plan-patterns =
          let f = l.fixed in
          let j = replay-joined room (samples_held s (table.Patterns h) c) replays in
          rw (parse_rows s room, e)
          (record {
            answer = rw (f.grouping_type_of, f.parameter, count, length-reverse out);
            count = rw (length-reverse out) count;
            fits = omega (arith, replay-room room [] (samples_held s (table.Patterns h) c) replays (omega arith));
            rows = λ p. sym j.0;
            joins = λ p. (first.ready, j.1);
          })
