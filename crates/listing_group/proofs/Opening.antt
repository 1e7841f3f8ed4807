-- The stages of a group as the code meets them: each refusal is the group's, and what is read of the payloads is the group.
use mathlib.Core.Path.{◌≡◌, refl, ap, sym, ◌∙◌}
use mathlib.Core.List.{List, map}
use Prim.Native.Nat.{ℕ}
use Rattle.base_fields.specs.Answer.{Answer, given, refused, and_then}
use Rattle.base_fields.specs.Span.{Span, bytes_at}
use Rattle.base_fields.proofs.Answers.{given_inj, given-first, refused-first}
use Rattle.group_sgpd.specs.Sgpd.{sgpd}
use Rattle.group_sgpd.specs.Head.{head_of}
use Rattle.group_sgpd.specs.declared.SgpdHead.{SgpdHead}
use Rattle.group_sgpd.proofs.Onward.{read_whole}
use Rattle.table_front.specs.declared.TableKind.{TableKind}
use Rattle.table_front.specs.declared.TableKind.TheVariants.{Sbgp, Csgp}
use Rattle.table_rows.specs.Row.{Table}
use Rattle.table_runs.specs.Patterns.{patterns_of}
use Rattle.table_runs.specs.Ahead.{all_in, ahead_in, OfKind, Held}
use Rattle.table_runs.specs.declared.SampleTable.{SampleTable}
use Rattle.table_runs.specs.declared.SampleTable.TheVariants as table
use Rattle.table_records.specs.Lent.{table_from}
use Rattle.listing_spec.specs.Walk.{TakenTable, sources}
use Rattle.listing_spec.specs.Table.{patterns_taken, taken_table, entries_of, entries_taken}
use Rattle.listing_spec.specs.Group.{group_taken}
use Rattle.listing_spec.proofs.Taken.{parsed_taken, contents, structure_refused, table-made, rows-refused}
use Rattle.listing_spec.proofs.Group.{table-refused, entries-refused, group-given}
use Rattle.listing_walk.specs.Told.{taken_as, sources_of}
use Rattle.listing_walk.specs.declared.SourcesAt.{SourcesAt}
use Rattle.listing_walk.proofs.Stand.{table-stands, sgpd-stands}
use Rattle.listing_group.specs.Opened.{room_of, count_of, Opened}
use Rattle.std.specs.Prelude.{Option}
use Rattle.listing_group.specs.declared.GroupAt.{GroupAt}

-- the taken table by its kind
module _ (s : List ℕ) (b : Span) where
  patterns_as : (kind : TableKind) → patterns_taken s (taken_as kind b) ≡ patterns_of kind (bytes_at s b)
  unfolding patterns_taken
  patterns_as Sbgp = refl
  patterns_as Csgp = refl

  parsed_as : (kind : TableKind) (t : SampleTable) (room : ℕ) → OfKind kind t → parsed_taken s room (taken_as kind b) ≡ table_from (bytes_at s b) t room
  parsed_as Sbgp (table.Rows h) room k = refl
  parsed_as Sbgp (table.Patterns h) room k = absurd k
  parsed_as Csgp (table.Rows h) room k = absurd k
  parsed_as Csgp (table.Patterns h) room k = refl

module _ (s : List ℕ) (t : ℕ) (lent : Option ℕ) (f : SourcesAt) (found : given (sources_of f) ≡ sources s t) where
  abbrev table_at : Span
  table_at = record { place = f.table_place; size = f.table_size }

  abbrev sgpd_at : Span
  sgpd_at = record { place = f.sgpd_place; size = f.sgpd_size }

  abbrev pub ts : List ℕ
  ts = bytes_at s table_at

  abbrev pub ds : List ℕ
  ds = bytes_at s sgpd_at

  abbrev room : ℕ
  room = room_of lent

  abbrev taken : TakenTable
  taken = taken_as f.kind table_at

  pub structure_refuses : {n : ℕ} → patterns_of f.kind ts ≡ refused n → group_taken s t room ≡ refused n
  structure_refuses e = table-refused s t room (sym found) (structure_refused s room taken (patterns_as s table_at f.kind ∙ e))

  module _ {tb : SampleTable} (held : Held f.kind ts tb) where
    read : patterns_taken s taken ≡ given (ahead_in ts tb (all_in tb))
    read = patterns_as s table_at f.kind ∙ held.patterns

    parsed : parsed_taken s room taken ≡ table_from ts tb room
    parsed = parsed_as s table_at f.kind tb room held.kind

    -- the stage of the rows
    abbrev counts : Table → ℕ
    counts x = count_of lent x.rows (ahead_in ts tb (all_in tb))

    pub rows_refuse : {n : ℕ} → refused n ≡ and_then (table_from ts tb room) (λ x. given (counts x)) → group_taken s t room ≡ refused n
    rows_refuse e = table-refused s t room (sym found) (rows-refused s room taken read (parsed ∙ refused-first (table_from ts tb room) counts (sym e)))

    module _ {n : ℕ} (counted : given n ≡ and_then (table_from ts tb room) (λ x. given (counts x))) where
      made : (x : Table) × (table_from ts tb room ≡ given x) × (◌≡◌ {A = Answer ℕ} (given (counts x)) (given n))
      made = given-first (table_from ts tb room) (λ x. given (counts x)) (sym counted)

      table_taken : taken_table s room taken ≡ given (contents (ahead_in ts tb (all_in tb)) made.0)
      table_taken = table-made s room taken read (parsed ∙ made.1)

      pub entries_refuse : {m : ℕ} → refused m ≡ and_then (sgpd ds) (λ es. given (head_of ds)) → group_taken s t room ≡ refused m
      unfolding entries_taken
      entries_refuse e = entries-refused s t room (sym found) table_taken (rw (refused-first (sgpd ds) (λ es. head_of ds) (sym e)) refl)

      abbrev group_at : SgpdHead → GroupAt
      group_at h =
          record {
            table_place = f.table_place;
            table_size = f.table_size;
            table = tb;
            count = n;
            sgpd_place = f.sgpd_place;
            sgpd_size = f.sgpd_size;
            head = h;
          }

      pub group-opens : {h : SgpdHead} → given h ≡ and_then (sgpd ds) (λ es. given (head_of ds)) → Opened s t lent (group_at h)
      unfolding entries_taken
      group-opens {h} e =
          let spans = given-first (sgpd ds) (λ es. given (head_of ds)) (sym e) in
          let parts_of : List Span → List (List ℕ) = λ es. map (λ x. bytes_at ds x) es in
          let entries = parts_of spans.0 in
          let described : entries_of ds ≡ given entries = ap (λ (a : Answer (List Span)). and_then a (λ es. given (parts_of es))) spans.1 in
          record {
            group = record { patterns = ahead_in ts tb (all_in tb); rows = made.0.rows; entries = entries };
            told = group-given s t room (sym found) table_taken described;
            walked = (taken, sym found);
            count = sym (given_inj made.2);
            table = (table-stands s t f found).inside;
            sgpd = (sgpd-stands s t f found).inside;
            holds = record {
              whole = held.whole;
              laid = held.laid;
              read = read_whole ds (sym e);
              patterns = refl;
              made = (made.0, made.1, refl);
              entries = described;
            };
          }
