-- The decoders' refusals; then what is seen of all samples.
use mathlib.Core.Path.{◌≡◌, ap, sym, ◌∙◌}
use native.Mathlib.Omega.{arith}
use Rattle.std.specs.Prelude.{Result}
use Rattle.base_fields.specs.Answer.{Answer, given}
use Rattle.base_fields.specs.Refusal.{told_value}
use Rattle.base_fields.specs.declared.refusal.Refusal.{Refusal}
use Rattle.table_runs.specs.Ahead.{all_in, ahead_in}
use Rattle.table_runs.proofs.Positions.{filled-ahead}
use Rattle.table_views.specs.Used.{Filled, used_in, first_refusal}
use Rattle.listing_theorem.specs.Samples.{meaning_of}
use Rattle.listing_spec.specs.Table.{entries_of}
use Rattle.listing_spec.specs.Group.{Group}
use Rattle.use_profile.specs.Profile.{t, Verdict}
use Rattle.use_profile.proofs.From.{from-decoders, from-seen}
use Rattle.use_profile.proofs.profile_in.Goals as goal
use Rattle.use_profile.proofs.profile_in.Goals.{After-check_used}

-- the used positions were checked
module _ (c : After-check_used) where
  module _ (g : Group) (p : g.patterns ≡ (let a = c.args in ahead_in a.table_s.now a.table (all_in a.table))) where
    filled : Filled g.patterns
    filled = let a = c.args in rw p (filled-ahead a.table_s.now a.table (all_in a.table) c.requires.0)

    checked : {r : Result Unit Refusal} → entries_of c.args.s.now ≡ given g.entries → c.check_used.result ≡ r
        → told_value r ≡ first_refusal (meaning_of t g.entries) (used_in g.patterns)
    checked e f = rw p (sym (ap told_value f) ∙ c.check_used.ensures g.entries e)

pub returns-in-Err : goal.returns-in-Err
returns-in-Err c =
    record { gives = λ g p e. ap {B = Answer Verdict} given (sym (from-decoders g (filled (goal.at.returns-in-Err c).After-check_used g p) (checked (goal.at.returns-in-Err c).After-check_used g p e c.in-Err.is))) }

pub survey_table-requires : goal.survey_table-requires
survey_table-requires c =
    let pre = c.requires in
    (pre.0, pre.2, c.entry_marks-marks.ensures, omega (arith, pre.1, c.ranges.covered))

pub returns-in-Ok : goal.returns-in-Ok
returns-in-Ok c =
    record {
      gives = λ g p e.
          let passed = checked (goal.at.returns-in-Ok c).After-check_used g p e c.in-Ok.is in
          let seen = rw (← p) at c.survey_table.ensures in
          let covered = rw (← p) at c.requires.1 in
          ap {B = Answer Verdict} given (c.judge.ensures ∙ sym (from-seen g (filled (goal.at.returns-in-Ok c).After-check_used g p) c.args.s.now e passed covered seen));
    }
