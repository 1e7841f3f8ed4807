-- A part of a list of bytes: where it begins, and how many bytes there are.
use Rattle.std.specs.Prelude.{ℕ, ◌+◌, ◌≡◌, List, [], take, drop}
use Rattle.base_fields.specs.Answer.{Answer, given, none, refused}
use Rattle.base_fields.specs.declared.Part.{Part}

pub record Span : Type 0 where
  pub place : ℕ
  pub size : ℕ

-- where a part of src/ stands
abbrev pub span_of : Part → Span
span_of p = record { place = p.place; size = p.size }

abbrev pub bytes_at : List ℕ → Span → List ℕ
bytes_at s e = take e.size (drop e.place s)

-- the part that an answer names; empty without a place
abbrev pub part_of : List ℕ → Answer Span → List ℕ
part_of s (given e) = bytes_at s e
part_of s none = []
part_of s (refused n) = []

-- where a part stands that is handed back as a reference: `whole` and `part` are the memory block and the offset of a slice and of its part. An
-- empty part stands nowhere
abbrev pub PartAt : Answer Span → ℕ × ℕ → ℕ × ℕ → Type 0
PartAt (given e) whole part = (part.0 ≡ whole.0) × (part.1 ≡ e.place + whole.1)
PartAt none whole part = Unit
PartAt (refused n) whole part = Unit

-- a reference to the part that an answer names: its bytes and its place
pub record GivesPart (told : Answer Span) (s : List ℕ) (whole : ℕ × ℕ) (part : List ℕ) (at : ℕ × ℕ) : Type 0 where
  pub bytes : part ≡ part_of s told
  pub place : PartAt told whole at
