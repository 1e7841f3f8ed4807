use mathlib.Core.Path.{◌≡◌, refl, sym, ◌∙◌}
use mathlib.Core.List.{List}
use Prim.Native.Nat.{ℕ}
use Rattle.base_fields.specs.Answer.{Answer, given}
use Rattle.table_views.specs.Used.{used_in, first_refusal}
use Rattle.table_runs.specs.Ahead.{all_in, ahead_in, Step}
use Rattle.listing_theorem.specs.Meaning.{Meaning}
use Rattle.listing_theorem.specs.Samples.{meaning_of}
use Rattle.listing_spec.specs.Table.{entries_of}
use Rattle.listing_meanings.specs.Meant.{meaning_in}
use Rattle.group_sgpd.proofs.Heads.{handed}
use Rattle.listing_meanings.proofs.Found.{has-outside}
use Rattle.listing_meanings.proofs.Checking.{pattern_then, no_pattern, refusal-in}
use Rattle.listing_meanings.proofs.check.check_used.Goals as goal
use Rattle.listing_meanings.proofs.check.check_used.Goals.{At-loop-pattern, In-Some}

-- at the loop's head
module _ (c : At-loop-pattern) where
  abbrev meaning : ℕ → Answer Meaning
  meaning = meaning_in c.args.grouping_type c.args.s.now

  -- what the patterns ahead answer is what the table does, with the entries of the sgpd
  told : {a : Answer Unit} → first_refusal meaning (used_in (ahead_in c.args.table_s.now c.args.table c.loop-pattern.here)) ≡ a
      → (entries : List (List ℕ)) → entries_of c.args.s.now ≡ given entries
      → a ≡ first_refusal (meaning_of c.args.grouping_type entries) (used_in (ahead_in c.args.table_s.now c.args.table (all_in c.args.table)))
  told e entries g = sym e ∙ sym c.loop-pattern.invariant.1 ∙ refusal-in c.args.grouping_type c.args.s.now g _

-- the first pattern ahead
step : (c : In-Some) → Step c.args.table_s.now c.args.table c.loop-pattern.here c.in-Some.pattern c.in-Some.behind
step c = rw c.in-Some.is at c.next_pattern.ensures

pub loop-pattern-init : goal.loop-pattern-init
loop-pattern-init c =
    (rw c.first_pattern-here.ensures c.requires.0, rw c.first_pattern-here.ensures refl, has-outside c.requires.1 0 c.args.grouping_type refl)

pub next_pattern-requires : goal.next_pattern-requires
next_pattern-requires c = c.loop-pattern.invariant.0

pub check_pattern-requires : goal.check_pattern-requires
check_pattern-requires c =
    ((step (goal.at.check_pattern-requires c).In-Some).stands, c.requires.1, c.requires.2, c.loop-pattern.invariant.2)

pub loop-pattern-smaller : goal.loop-pattern-smaller
loop-pattern-smaller c = (step (goal.at.loop-pattern-smaller c).In-Some).fewer

pub loop-pattern-preserved : goal.loop-pattern-preserved
loop-pattern-preserved c =
    let passed = rw c.in_ok-last-in-Some.was at c.check_pattern.ensures in
    ((step (goal.at.loop-pattern-preserved c).In-Some).whole, c.loop-pattern.invariant.1 ∙ pattern_then (meaning (goal.at.loop-pattern-preserved c).At-loop-pattern) (step (goal.at.loop-pattern-preserved c).In-Some).first passed.0, passed.1)

pub returns-in_err-last-in-Some : goal.returns-in_err-last-in-Some
returns-in_err-last-in-Some c =
    let code = rw c.in_err-last-in-Some.was at c.check_pattern.ensures in
    rw (handed c.from_residual.ensures) (told (goal.at.returns-in_err-last-in-Some c).At-loop-pattern (pattern_then (meaning (goal.at.returns-in_err-last-in-Some c).At-loop-pattern) (step (goal.at.returns-in_err-last-in-Some c).In-Some).first code))

pub returns-in-None : goal.returns-in-None
returns-in-None c =
    let end = rw c.in-None.is at c.next_pattern.ensures in
    told (goal.at.returns-in-None c).At-loop-pattern (no_pattern (meaning (goal.at.returns-in-None c).At-loop-pattern) end)
