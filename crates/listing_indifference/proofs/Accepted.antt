-- The bodies of the examples are accepted, so that their pairs say more than that two refusals are the same. (Those of ExampleNone are refused.)
use mathlib.Core.Path.{◌≡◌, refl}
use mathlib.Core.List.{List, [], ◌∷◌}
use Prim.Native.Nat.{ℕ}
use Rattle.base_fields.specs.Answer.{given, and_then}
use Rattle.base_fields.specs.Number.{be_at, bit_at, bits_at}
use Rattle.base_fields.specs.Fourcc as fourcc
use Rattle.atom_tree.specs.Atom.{header_at, child_at}
use Rattle.table_rows.specs.Pattern.{index_in, samples_from, samples_of}
use Rattle.table_replay.specs.Replay.{enter, replay}
use Rattle.table_sbgp.specs.Sbgp.{read_rows, sbgp}
use Rattle.table_csgp_head.specs.Csgp.{width_of, read_pairs, read_indices, read_patterns, csgp}
use Rattle.group_sgpd.specs.Sgpd.{implicit_length, span_at, spans, sgpd}
use Rattle.group_entries.specs.Decoded.{signed16, decode_roll, decode_rap, decode_tele, decode_sap, decode_rash, point_at, up_to}
use Rattle.group_entries.specs.Layout.{decode}
use Rattle.listing_theorem.specs.Groups.{groups_in, groups}
use Rattle.listing_theorem.specs.Listing.{each, listing}
use Rattle.listing_theorem.specs.Same.{same}
use Rattle.listing_theorem.specs.Stretches.{enter_stretch, stretches}
use Rattle.listing_theorem.specs.Samples.{meaning_of, meanings}
use Rattle.listing_spec.specs.Walk.{body_of, visit_table, visit_sgpd, visit, walk_in, walk_from, sources}
use Rattle.listing_spec.specs.Table.{taken_table, entries_taken}
use Rattle.listing_spec.specs.Group.{group_taken}
use Rattle.listing_spec.specs.Cue.{cue_listing}
use Rattle.listing_indifference.specs.Examples.{roll_body, tele_body, one_prol, one_rap, one_tele, one_sap, one_rash}

-- a body for a type, and the bytes of its listing
pub record Listed : Type 0 where
  pub type : ℕ
  pub body : List ℕ
  pub bytes : List ℕ

abbrev pub AllListed : List Listed → Type 0
AllListed [] = Unit
AllListed (x ∷ xs) = (and_then (cue_listing x.body x.type 1 40) (λ c. given c.bytes) ≡ given x.bytes) × AllListed xs

abbrev pub listings : List Listed
listings =
    record { type = fourcc.roll; body = roll_body; bytes = 0x72 ∷ 0x6f ∷ 0x6c ∷ 0x6c ∷ 2 ∷ 2 ∷ 2 ∷ 0xfe ∷ 0xff ∷ 1 ∷ [] } ∷
    record { type = fourcc.tele; body = tele_body; bytes = 0x74 ∷ 0x65 ∷ 0x6c ∷ 0x65 ∷ 1 ∷ 1 ∷ 2 ∷ 1 ∷ [] } ∷
    record { type = fourcc.prol; body = one_prol; bytes = 0x70 ∷ 0x72 ∷ 0x6f ∷ 0x6c ∷ 1 ∷ 1 ∷ 2 ∷ 0x83 ∷ 0x80 ∷ 2 ∷ [] } ∷
    record { type = fourcc.rap; body = one_rap; bytes = 0x72 ∷ 0x61 ∷ 0x70 ∷ 0x20 ∷ 1 ∷ 1 ∷ 2 ∷ 1 ∷ 2 ∷ [] } ∷
    record { type = fourcc.tele; body = one_tele; bytes = 0x74 ∷ 0x65 ∷ 0x6c ∷ 0x65 ∷ 1 ∷ 1 ∷ 2 ∷ 1 ∷ [] } ∷
    record { type = fourcc.sap; body = one_sap; bytes = 0x73 ∷ 0x61 ∷ 0x70 ∷ 0x20 ∷ 1 ∷ 1 ∷ 2 ∷ 1 ∷ 1 ∷ [] } ∷
    record { type = fourcc.rash; body = one_rash; bytes = 0x72 ∷ 0x61 ∷ 0x73 ∷ 0x68 ∷ 1 ∷ 1 ∷ 2 ∷ 1 ∷ 0 ∷ 7 ∷ 9 ∷ 4 ∷ 5 ∷ [] } ∷
    []

pub accepted : AllListed listings
unfolding header_at child_at be_at bit_at bits_at body_of visit_table visit_sgpd visit walk_in walk_from sources taken_table entries_taken read_rows sbgp width_of read_pairs read_indices read_patterns csgp enter replay implicit_length span_at spans sgpd meanings meaning_of decode decode_roll decode_rap decode_tele decode_sap decode_rash point_at up_to signed16 samples_of samples_from index_in group_taken cue_listing listing each groups groups_in stretches enter_stretch same
accepted = (refl, (refl, (refl, (refl, (refl, (refl, (refl, tt)))))))
