-- Each way out by the check that failed; where all passed, the patterns that were read are those ahead of the first.
use mathlib.Core.Path.{refl, subst, ◌∙◌}
use Rattle.std.specs.Prelude.{Result}
use Rattle.base_fields.specs.declared.refusal.Refusal.{Refusal}
use Rattle.base_fields.proofs.Handed.{handed}
use Rattle.table_csgp_head.specs.Head.{Fixed, GivesFixed, GivesPairs, GivesPatterns}
use Rattle.table_csgp_head.specs.declared.CsgpHead.{CsgpHead}
use Rattle.table_csgp_head.proofs.Checked.{csgp-all, laid}
use Rattle.table_csgp_head.proofs.head.read_csgp.Goals as goal
use Rattle.table_csgp_head.proofs.head.read_csgp.Goals.{In_ok-head}

-- the fixed fields that were read
fixed : (c : In_ok-head) → Fixed c.args.s.now c.in_ok-head.head
fixed c = subst (λ (r : Result CsgpHead Refusal). GivesFixed c.args.s.now r) c.in_ok-head.was c.fixed_fields.ensures

pub returns-in_err-head : goal.returns-in_err-head
returns-in_err-head c = rw (handed c.from_residual.ensures) (rw c.in_err-head.was at c.fixed_fields.ensures)

pub check_pairs-requires : goal.check_pairs-requires
check_pairs-requires c = fixed c

pub returns-in_err-check_pairs : goal.returns-in_err-check_pairs
returns-in_err-check_pairs c =
    let s = c.args.s.now in
    let e = subst (λ (r : Result Unit Refusal). GivesPairs s r) c.in_err-check_pairs.was c.check_pairs.ensures in
    rw (handed c.from_residual-in_err-check_pairs.ensures) (csgp-all s (fixed (goal.at.returns-in_err-check_pairs c).In_ok-head) ∙ rw e refl)

pub check_patterns-requires : goal.check_patterns-requires
check_patterns-requires c =
    let s = c.args.s.now in
    (fixed (goal.at.check_patterns-requires c).In_ok-head, subst (λ (r : Result Unit Refusal). GivesPairs s r) c.in_ok-check_pairs.was c.check_pairs.ensures)

pub returns-in_err-check_patterns : goal.returns-in_err-check_patterns
returns-in_err-check_patterns c =
    let s = c.args.s.now in
    rw (handed c.from_residual-in_err-check_patterns.ensures)
    (csgp-all s (fixed (goal.at.returns-in_err-check_patterns c).In_ok-head) ∙ subst (λ (r : Result Unit Refusal). GivesPatterns s r) c.in_err-check_patterns.was c.check_patterns.ensures)

pub returns : goal.returns
returns c =
    let s = c.args.s.now in
    laid s _ (fixed (goal.at.returns c).In_ok-head) (subst (λ (r : Result Unit Refusal). GivesPatterns s r) c.in_ok-check_patterns.was c.check_patterns.ensures)
