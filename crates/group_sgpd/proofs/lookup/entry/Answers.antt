-- By the answer of `entry_place`: the part of the place that it gives, else an empty part.
use Rattle.group_sgpd.proofs.ByNumber.{entry-inside}
use Rattle.group_sgpd.specs.Told.{told_entry}
use Rattle.group_sgpd.specs.Sgpd.{entry_at}
use Rattle.base_fields.specs.Answer.{given}
use lib.ListN.{length}
use Prim.Native.Nat.{◌+◌, ◌≤◌}
use mathlib.Core.Path.{◌≡◌, ap, sym, ◌∙◌}
use Rattle.group_sgpd.proofs.lookup.entry.Goals as goal
use Rattle.group_sgpd.proofs.lookup.entry.Goals.{In-Ok-Some}

-- the entry that was found lies within the payload
found : (c : In-Ok-Some) → let a = c.args in entry_at a.s.now a.index.0 ≡ given (record { place = c.in-Ok-Some.part.place; size = c.in-Ok-Some.part.size })
found c = sym (rw c.in-Ok-Some.field-0-is at c.in-Ok-Some.ensures)

inside : (c : In-Ok-Some) → c.in-Ok-Some.part.place + c.in-Ok-Some.part.size ≤ length c.args.s.now
inside c = let a = c.args in entry-inside a.s.now a.index.0 (found c)

pub bytes_at-requires : goal.bytes_at-requires
bytes_at-requires c = inside c

pub returns-in-Ok-Some : goal.returns-in-Ok-Some
returns-in-Ok-Some c = rw (found (goal.at.returns-in-Ok-Some c).In-Ok-Some) c.bytes_at.ensures

pub returns-in-Ok-None : goal.returns-in-Ok-None
returns-in-Ok-None c =
    let told = rw c.in-Ok-None.field-0-is at c.in-Ok-None.ensures in
    rw (← told) (record { bytes = c.bytes_at-in-Ok-None.ensures.bytes; place = tt })

pub returns-in-Err : goal.returns-in-Err
returns-in-Err c =
    let told = ap told_entry (sym c.in-Err.is) ∙ c.entry_place.ensures in
    rw (← told) (record { bytes = c.bytes_at-in-Err.ensures.bytes; place = tt })
