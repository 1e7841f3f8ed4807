-- The top of a film that is read by place (document 02, A1: "At the top an atom may pass the given bytes").
use Rattle.std.specs.Prelude.{ℕ, List, Result, Option}
use Rattle.base_fields.specs.Answer.{Answer, given, refuse_if, and_then}
use Rattle.base_fields.specs.Refusal.{told_or_none}
use Rattle.base_fields.specs.declared.refusal.Refusal.{Refusal}
use Rattle.atom_tree.specs.Told.{size_of}
use Rattle.atom_tree.specs.Atom.{Known, Header, header_at, far_end}
use Rattle.cue_film.specs.declared.top.TopAtom.{TopAtom}

-- an atom at the top: its type, and its size, if it has one
pub record Top : Type 0 where
  pub type : ℕ
  pub size : Known

-- the atom of a header at place p of a film: 5 is counted from the film's first byte
abbrev pub placed_at : ℕ → Header → Answer Top
placed_at p h = refuse_if (far_end p h.size) 5 (given (record { type = h.type; size = h.size }))

-- the atom at place p, by the bytes of the film from there on
abbrev pub top_at : List ℕ → ℕ → Answer Top
top_at s p = and_then (header_at s 0) (placed_at p)

abbrev pub top_of : TopAtom → Top
top_of a = record { type = a.fourcc; size = size_of a.size }

abbrev pub told_top : Result (Option TopAtom) Refusal → Answer Top
told_top = told_or_none top_of
