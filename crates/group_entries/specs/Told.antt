-- Document 01's answer for what each decoder gives.
use Rattle.std.specs.Prelude.{ℕ, ◌≡◌, Bool, List, Option, Result, ltb, ℤ, length}
use Rattle.base_fields.specs.Answer.{Answer, given, refuse_if, within}
use Rattle.base_fields.specs.Refusal.{told, told_value, told_or_none}
use Rattle.base_fields.specs.declared.refusal.Refusal.{Refusal}
use Rattle.group_entries.specs.Decoded.{Rap, Sap, Point, Rash, OutputPair, Alst}
use Rattle.group_entries.specs.declared.RollRecovery.{RollRecovery}
use Rattle.group_entries.specs.declared.VisualRandomAccess.{VisualRandomAccess}
use Rattle.group_entries.specs.declared.TemporalLevel.{TemporalLevel}
use Rattle.group_entries.specs.declared.StreamAccessPoint.{StreamAccessPoint}
use Rattle.group_entries.specs.declared.RateShare.{RateShare}
use Rattle.group_entries.specs.declared.RateShareOperationPoint.{RateShareOperationPoint}
use Rattle.group_entries.specs.declared.AlternativeStartup.{AlternativeStartup}
use Rattle.group_entries.specs.declared.AlternativeStartupPiece.{AlternativeStartupPiece}

abbrev pub told_roll : Result RollRecovery Refusal → Answer ℤ
told_roll = told (λ v. v.roll_distance)

abbrev pub rap_read : VisualRandomAccess → Rap
rap_read v = record { known = v.num_leading_samples_known; number = v.num_leading_samples }

abbrev pub told_rap : Result VisualRandomAccess Refusal → Answer Rap
told_rap = told rap_read

abbrev pub told_tele : Result TemporalLevel Refusal → Answer Bool
told_tele = told (λ v. v.level_independently_decodable)

abbrev pub sap_read : StreamAccessPoint → Sap
sap_read v = record { dependent = v.dependent; type = v.sap_type }

abbrev pub told_sap : Result StreamAccessPoint Refusal → Answer Sap
told_sap = told sap_read

abbrev pub rash_read : RateShare → Rash
rash_read v =
    record {
      points = v.operation_point_count;
      maximum = v.maximum_bitrate;
      minimum = v.minimum_bitrate;
      priority = v.discard_priority;
    }

abbrev pub told_rash : Result RateShare Refusal → Answer Rash
told_rash = told rash_read

abbrev pub alst_read : AlternativeStartup → Alst
alst_read v = record { roll_count_of = v.roll_count; first_output = v.first_output_sample; pairs = v.piece_count }

abbrev pub told_alst : Result AlternativeStartup Refusal → Answer Alst
told_alst = told alst_read

abbrev pub point_read : RateShareOperationPoint → Point
point_read v = record { bitrate = v.available_bitrate; share = v.target_rate_share }

abbrev pub told_point : Result (Option RateShareOperationPoint) Refusal → Answer Point
told_point = told_or_none point_read

abbrev pub told_offset : Result (Option ℕ) Refusal → Answer ℕ
told_offset = told_or_none (λ n. n)

abbrev pub pair_read : AlternativeStartupPiece → OutputPair
pair_read v = record { output = v.num_output_samples; total = v.num_total_samples }

abbrev pub told_piece : Result (Option AlternativeStartupPiece) Refusal → Answer OutputPair
told_piece = told_or_none pair_read

-- 55, then 40 under n bytes
pub record GivesLength (s : List ℕ) (n : ℕ) (r : Result Unit Refusal) : Type 0 where
  pub told : told_value r ≡ within s (refuse_if (ltb (length s) n) 40 (given tt))
