-- By the answer of `described_place`: an entry that was found lies within its payload.
use Rattle.group_fragments.proofs.Two.{described-inside}
use lib.ListN.{length}
use Prim.Native.Nat.{◌+◌, ◌≤◌}
use mathlib.Core.Path.{sym}
use Rattle.group_fragments.proofs.described.Goals as goal
use Rattle.group_fragments.proofs.described.Goals.{In-Ok-Some-Film, In-Ok-Some-Fragment}

fragment-inside : (c : In-Ok-Some-Fragment) → let p = c.in-Ok-Some-Fragment.part in p.place + p.size ≤ length c.args.fragment.now
fragment-inside c = let a = c.args in let f = c.in-Ok-Some-Fragment in described-inside a.film.now a.fragment.now a.raw (sym (rw (f.field-0-is, f.field-0-0-is) at f.ensures))

film-inside : (c : In-Ok-Some-Film) → let p = c.in-Ok-Some-Film.part in p.place + p.size ≤ length c.args.film.now
film-inside c = let a = c.args in let f = c.in-Ok-Some-Film in described-inside a.film.now a.fragment.now a.raw (sym (rw (f.field-0-is, f.field-0-0-is) at f.ensures))

pub bytes_at-requires : goal.bytes_at-requires
bytes_at-requires c = film-inside c

pub bytes_at-requires-in-Ok-Some-Fragment : goal.bytes_at-requires-in-Ok-Some-Fragment
bytes_at-requires-in-Ok-Some-Fragment c = fragment-inside c
