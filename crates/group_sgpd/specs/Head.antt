-- What the readers of this crate hand on: the fixed fields, what tells an entry's length, and the place behind some entries.
use Rattle.std.specs.Prelude.{ℕ, zero, suc, ◌+◌, ◌-◌, ◌≤◌, ◌≡◌, List, Result, ltb, leb, eqb, length}
use Rattle.base_fields.specs.Answer.{Answer, given, choose, refuse_if, and_then, input_limit}
use Rattle.base_fields.specs.Number.{be_at}
use Rattle.group_sgpd.specs.Sgpd.{version, grouping_type_of, default_length_of, default_index, entry_count_of, implicit_length, span_at, headed, sgpd, entry_at, entry_count_place}
use Rattle.base_fields.specs.Refusal.{told}
use Rattle.base_fields.specs.Span.{Span, span_of}
use Rattle.base_fields.specs.declared.Part.{Part}
use Rattle.base_fields.specs.declared.refusal.Refusal.{Refusal}
use Rattle.group_sgpd.specs.Told.{told_entry}
use Rattle.group_sgpd.specs.declared.EntryCursor.{EntryCursor}
use Rattle.group_sgpd.specs.declared.EntryStep.{EntryStep}
use Rattle.group_sgpd.specs.declared.SgpdHead.{SgpdHead}
use Rattle.group_sgpd.specs.declared.Lengths.{Lengths}
use Rattle.group_sgpd.specs.declared.Lengths.TheVariants as lengths

abbrev pub head_of : List ℕ → SgpdHead
head_of s =
    record {
      version = version s;
      grouping_type = grouping_type_of s;
      default_length = default_length_of s;
      default_sample_description_index = default_index s;
      entry_count = entry_count_of s;
      first = entry_count_place s + 4;
    }

-- the entry count at a place, behind the other fields: 32 where it is missing
abbrev pub entry_count_at : List ℕ → ℕ → ℕ → ℕ → ℕ → Answer SgpdHead
entry_count_at s v l i p =
    refuse_if (ltb (length s) (p + 4)) 32
    (given
    (record {
      version = v;
      grouping_type = grouping_type_of s;
      default_length = l;
      default_sample_description_index = i;
      entry_count = be_at 4 s p;
      first = p + 4;
    }))

-- what tells an entry's length, by version, type and default length
unfoldable pub lengths_by : ℕ → ℕ → ℕ → Lengths
lengths_by v t k =
    choose (leb 1 v)
    (choose (eqb k 0) lengths.Prefixed (lengths.Fixed k))
    (choose (eqb (implicit_length t) 0) lengths.Shared (lengths.Fixed (implicit_length t)))

abbrev pub lengths_of : List ℕ → Lengths
lengths_of s = lengths_by (version s) (grouping_type_of s) (default_length_of s)

abbrev pub told_span : Result Part Refusal → Answer Span
told_span = told span_of

-- 35 where the entry is cut
abbrev pub whole : List ℕ → ℕ → ℕ → Answer Span
whole s place size = refuse_if (ltb (length s) (place + size)) 35 (given (record { place = place; size = size }))

-- the place behind n entries, the first at place p
unfoldable pub after : ℕ → List ℕ → ℕ → Answer ℕ
after zero s p = given p
after (suc n) s p = and_then (span_at s p) (λ e. after n s (e.place + e.size))

-- the fixed fields: 55, 30, 31, 32 in order
abbrev pub head_at : List ℕ → Answer SgpdHead
head_at s = headed s (given (head_of s))

-- h is the head that was read of a payload
pub record HeadOf (s : List ℕ) (h : SgpdHead) : Type 0 where
  pub read : head_at s ≡ given h
  pub short : length s ≤ input_limit
  pub inside : h.first ≤ length s

-- h is the head of a payload that was read whole
pub record ReadWhole (s : List ℕ) (h : SgpdHead) : Type 0 where
  pub head : HeadOf s h
  pub entries : List Span
  pub read : sgpd s ≡ given entries

-- a cursor at the place where its entry starts, behind those before it
pub record OnEntry (s : List ℕ) (c : EntryCursor) : Type 0 where
  pub number : 1 ≤ c.index.0
  pub place : after (c.index.0 - 1) s (entry_count_place s + 4) ≡ given c.place

-- entry i, and a cursor that stands on entry n
pub record GivesEntry (s : List ℕ) (i n : ℕ) (r : EntryStep) : Type 0 where
  pub found : told_entry r.found ≡ entry_at s i
  pub index : r.cursor.index.0 ≡ n
  pub cursor : OnEntry s r.cursor

-- a place p among the n entries of a payload, with what tells their lengths
pub record Among (s : List ℕ) (l : Lengths) (n p : ℕ) : Type 0 where
  pub lengths : l ≡ lengths_of s
  pub count : n ≡ entry_count_of s
  pub short : length s ≤ input_limit
  pub inside : p ≤ length s
