-- 55; the group's refusals; else the payloads where it was read stand in the body, and the verdict is that of `profile_in`.
use mathlib.Core.Path.{ap, sym, subst, ◌∙◌}
use native.Mathlib.Omega.{arith}
use Rattle.std.specs.Prelude.{None}
use Rattle.table_rows.specs.Pattern.{covered_by}
use Rattle.listing_group.specs.Opened.{Opened}
use Rattle.use_profile.specs.Profile.{t, GivesVerdict}
use Rattle.use_profile.proofs.Judged.{group-refused, group-judged}
use Rattle.use_profile.proofs.profile.Goals as goal
use Rattle.use_profile.proofs.profile.Goals.{In-Ok}

-- the group is opened
module _ (c : In-Ok) where
  opened : Opened c.args.body.now t None c.in-Ok.group
  opened = rw c.in-Ok.is at c.open_group.ensures

pub returns-in-Err : goal.returns-in-Err
returns-in-Err c =
    let a = c.args in (
      omega (arith, c.if-body-gt-INPUT_LIMIT.false),
      group-refused a.body.now (rw c.in-Err.is at c.open_group.ensures),
    )

pub bytes_at-table_s-requires : goal.bytes_at-table_s-requires
bytes_at-table_s-requires c = (opened (goal.at.bytes_at-table_s-requires c).In-Ok).table

pub bytes_at-s-requires : goal.bytes_at-s-requires
bytes_at-s-requires c = (opened (goal.at.bytes_at-s-requires c).In-Ok).sgpd

pub profile_in-requires : goal.profile_in-requires
profile_in-requires c =
    let o = opened (goal.at.profile_in-requires c).In-Ok in
    rw (c.bytes_at-table_s.ensures.bytes, c.bytes_at-s.ensures.bytes) (o.holds.whole, o.count ∙ ap covered_by o.holds.patterns, o.holds.read)

pub returns : goal.returns
returns c =
    let o = opened (goal.at.returns c).In-Ok in
    let told = rw (c.bytes_at-table_s.ensures.bytes, c.bytes_at-s.ensures.bytes) at c.profile_in.ensures in
    subst (GivesVerdict c.args.body.now) (sym (told.gives o.group o.holds.patterns o.holds.entries))
    (omega (arith, c.if-body-gt-INPUT_LIMIT.false), group-judged c.args.body.now o.told)
