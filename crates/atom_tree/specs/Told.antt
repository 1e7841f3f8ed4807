-- Document 01's answer for what src/ answers with.
use Rattle.std.specs.Prelude.{ℕ, Result, Option, Some, None}
use Rattle.std.proofs.Math.Option.{none, some}
use Rattle.base_fields.specs.Answer.{Answer}
use Rattle.base_fields.specs.Refusal.{told_or_none}
use Rattle.base_fields.specs.declared.refusal.Refusal.{Refusal}
use Rattle.atom_tree.specs.Atom as atom
use Rattle.atom_tree.specs.Atom.{Known, Header}
use Rattle.base_fields.specs.Span.{Span}
use Rattle.atom_tree.specs.declared.AtomHeader.{AtomHeader}
use Rattle.atom_tree.specs.declared.Child.{Child}
use Rattle.atom_tree.specs.declared.BodyAt.{BodyAt}

-- a number that may be absent
abbrev pub known : Option ℕ → Known
known None = none
known (Some n) = some n

abbrev pub size_of : Option ℕ → Known
size_of = known

abbrev pub parent_end : Option ℕ → Known
parent_end = known

abbrev pub header_of : AtomHeader → Header
header_of h =
    record { type = h.fourcc; size = size_of h.total_size; header_length = h.header_len; body = h.payload_offset }

abbrev pub child_of : Child → atom.Child
child_of c = record { head = header_of c.head; next = c.next }

abbrev pub span_of : BodyAt → Span
span_of b = record { place = b.place; size = b.size }

abbrev pub told_header : Result (Option AtomHeader) Refusal → Answer Header
told_header = told_or_none header_of

abbrev pub told_child : Result (Option Child) Refusal → Answer atom.Child
told_child = told_or_none child_of

abbrev pub told_payload : Result (Option BodyAt) Refusal → Answer Span
told_payload = told_or_none span_of
