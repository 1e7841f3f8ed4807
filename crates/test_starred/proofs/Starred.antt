-- Every row of the table holds: antt computes the definitions, and the listing is a case of listing_spec.
use mathlib.Core.Path.{refl}
use Rattle.base_fields.specs.Number.{be_at, bit_at, bits_at}
use Rattle.atom_tree.specs.Atom.{header_at, declared_at}
use Rattle.table_rows.specs.Row.{rows_of, covered, index_at}
use Rattle.table_rows.specs.Pattern.{index_in, samples_from, samples_of}
use Rattle.table_replay.specs.Replay.{enter, replay}
use Rattle.table_sbgp.specs.Sbgp.{read_rows, sbgp}
use Rattle.table_csgp_head.specs.Csgp.{width_of, read_pairs, read_indices, read_patterns, csgp}
use Rattle.group_entries.specs.Decoded.{signed16, decode_roll, decode_rash, decode_alst}
use Rattle.group_sgpd.specs.Sgpd.{implicit_length, span_at, spans, sgpd}
use Rattle.listing_spec.proofs.Starred.{starred as listed}
use Rattle.test_starred.specs.Case.{AllHold}
use Rattle.test_starred.specs.All.{cases}

pub starred : AllHold cases
unfolding be_at bit_at bits_at header_at declared_at rows_of covered index_at index_in samples_from samples_of enter replay read_rows sbgp width_of read_pairs read_indices read_patterns csgp signed16 decode_roll decode_rash decode_alst implicit_length span_at spans sgpd
starred = (refl, (refl, (refl, (refl, (refl, (refl, (refl, (refl, (refl, (refl, (refl, (refl, (refl, (refl, (refl, (refl, (refl, (refl, (refl, (refl, (refl, (refl, (refl, (refl, (refl, (refl, (refl, (refl, (refl, (listed.0, tt))))))))))))))))))))))))))))))
