-- By what tells the length: fixed, before the entry (33), or a share of what is left (34).
use mathlib.Core.Bool.{true, false}
use Rattle.group_sgpd.specs.Sgpd.{entry_count_of}
use lib.Dec.{eqb}
use Rattle.group_sgpd.proofs.Entries.{span_at_as}
use lib.ListN.{length}
use Prim.Native.Nat.{◌+◌, ◌<◌, ◌≤◌, ◌-◌, ◌/◌}
use borrow.Author.Tests.{eq-eqb, ne_eqb, lt-ltb, le-ltb}
use mathlib.Core.Path.{◌≡◌, sym, ◌∙◌}
use native.Mathlib.Nat.{div-le_self}
use native.Mathlib.Omega.{arith}
use Rattle.group_sgpd.proofs.spans.span_at.Goals as goal

pub returns-then-left-lt4 : goal.returns-then-left-lt4
returns-then-left-lt4 c =
    let s = c.args.s.now in
    let h : length s < c.args.at + 4 = omega arith in
    sym (span_at_as s c.args.at c.requires.among.lengths c.in-Prefixed.is ∙ simp (lt-ltb _ _ h))

pub returns-then-size-eq0 : goal.returns-then-size-eq0
returns-then-size-eq0 c =
    let s = c.args.s.now in
    let z : eqb ((length s - c.args.at) / entry_count_of s) 0 ≡ true = rw (← c.requires.among.count) (eq-eqb _ _ c.if-size-eq0.true) in
    sym (span_at_as s c.args.at c.requires.among.lengths c.in-Shared.is ∙ simp z)

pub overflow_cast-size-in-Shared : goal.overflow_cast-size-in-Shared
overflow_cast-size-in-Shared c =
    let a = c.args in
    omega (arith, div-le_self (length a.s.now - a.at) a.count)

pub returns-in-Fixed : goal.returns-in-Fixed
returns-in-Fixed c =
    c.whole_entry.ensures ∙ sym (span_at_as c.args.s.now c.args.at c.requires.among.lengths c.in-Fixed.is)

pub returns-else-left-lt4 : goal.returns-else-left-lt4
returns-else-left-lt4 c =
    let s = c.args.s.now in
    let h : c.args.at + 4 ≤ length s = omega arith in
    c.whole_entry-in-Prefixed.ensures
    ∙ rw c.read_u32.ensures.0 (sym (span_at_as s c.args.at c.requires.among.lengths c.in-Prefixed.is ∙ simp (le-ltb _ _ h)))

pub returns-else-size-eq0 : goal.returns-else-size-eq0
returns-else-size-eq0 c =
    let s = c.args.s.now in
    let z : eqb ((length s - c.args.at) / entry_count_of s) 0 ≡ false = rw (← c.requires.among.count) (ne_eqb _ _ c.if-size-eq0.false) in
    c.whole_entry-in-Shared.ensures
    ∙ rw c.requires.among.count (sym (span_at_as s c.args.at c.requires.among.lengths c.in-Shared.is ∙ simp z))
