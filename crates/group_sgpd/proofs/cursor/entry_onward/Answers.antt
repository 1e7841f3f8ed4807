-- From the cursor on to the entry: `onward` says that its place is the one that a walk from the first entry reaches.
use Rattle.group_sgpd.proofs.Heads.{count-is, among}
use Rattle.group_sgpd.proofs.Onward.{onward, entry-reached, first-inside, entry-unrefused}
use Rattle.group_sgpd.specs.Sgpd.{entry_count_place}
use Rattle.group_sgpd.specs.Head.{after}
use Rattle.base_fields.specs.Answer.{given}
use Rattle.base_fields.specs.Refusal.{told_value}
use Prim.Native.Nat.{◌+◌, ◌-◌}
use native.Mathlib.Omega.{arith}
use mathlib.Core.Path.{◌≡◌, refl, ap, sym, ◌∙◌}
use Rattle.group_sgpd.proofs.cursor.entry_onward.Goals as goal
use Rattle.group_sgpd.proofs.cursor.entry_onward.Goals.{In-Ok}

-- the place behind the entries before it
reached : (c : In-Ok) → let a = c.args in after (a.index.0 - 1) a.s.now (entry_count_place a.s.now + 4) ≡ given c.in-Ok.at
reached c =
    onward c.args.s.now c.requires.on_entry c.args.index.0 c.requires.index_le_index.0 ∙ sym (ap told_value (sym c.in-Ok.is) ∙ c.skip.ensures)

pub skip-requires : goal.skip-requires
skip-requires c =
    record {
      among = among c.requires.read_whole.head c.lengths_by-lengths.ensures (first-inside c.requires.read_whole.head _ c.requires.on_entry.place);
      n_le_count = omega arith;
    }

pub found_at-found-requires : goal.found_at-found-requires
found_at-found-requires c =
    record {
      among = among c.requires.read_whole.head c.lengths_by-lengths.ensures (first-inside c.requires.read_whole.head _ (reached c));
      count_nonzero = omega arith;
    }

pub returns-in-Ok : goal.returns-in-Ok
returns-in-Ok c =
    let i = c.args.index.0 in
    record {
      found = c.found_at-found.ensures ∙ sym (entry-reached c.requires.read_whole i (omega arith) (omega (arith, count-is c.requires.read_whole.head)) (reached (goal.at.returns-in-Ok c).In-Ok));
      index = refl;
      cursor = record { number = omega arith; place = reached (goal.at.returns-in-Ok c).In-Ok };
    }

pub returns-in-Err : goal.returns-in-Err
returns-in-Err c =
    let i = c.args.index.0 in
    absurd
    (entry-unrefused c.requires.read_whole i (omega arith) (omega (arith, count-is c.requires.read_whole.head))
    (onward c.args.s.now c.requires.on_entry i c.requires.index_le_index.0 ∙ sym (ap told_value (sym c.in-Err.is) ∙ c.skip.ensures)))
