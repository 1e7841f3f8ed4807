-- The declared body, then the envelope; under it, `present` is the same as without one.
use mathlib.Core.Path.{ap, sym, ◌∙◌}
use Rattle.std.proofs.Common.{Ok}
use Rattle.atom_tree.specs.Told.{told_payload}
use Rattle.atom_tree.proofs.Headers.{declared-fits}
use Rattle.atom_tree.proofs.body.read_payload_bounded.Goals as goal

pub present_payload-requires : goal.present_payload-requires
present_payload-requires c =
    let b = c.in-Ok-Some in
    let known = rw b.is at b.field-0-is in
    rw b.is (rw known (declared-fits _ _ (sym c.declared_payload-body.ensures ∙ ap told_payload b.is ∙ ap (λ o. told_payload (Ok o)) known)))
