use Rattle.std.proofs.Common.{subst, sym}
use Rattle.std.specs.Prelude.{string_bytes}
use Rattle.app_engine.specs.Driving.{sessions_in}
use Rattle.app_engine.specs.Steps.SealedTexts.{AreSealedFrom, AreTrueTexts}
use Rattle.app_engine.proofs.DriveOutcomes.{can_drive}
use Rattle.app_engine.proofs.SealedTexts.{texts_are_driven}
use Rattle.app_engine.proofs.driving.drive_object.Goals as goal

pub returns-clause-driven : goal.returns-clause-driven
returns-clause-driven g c =
    let any = g.O.Drivable.any in
    let input = c.args.history.now in
    let order = c.args.order in
    let text = string_bytes c.in_ok-text.text in
    texts_are_driven any input order c.in_ok-seals.seals.items text
    (can_drive order.stop input (sessions_in (any input)) ((g.met.O.Drivable g.world.𝓛 g.world.𝓜 g.world.𝓡 ((λ s x. x), (λ x. x), (λ x. x), λ x. x)).sessions input) c.in_ok-seals.ensures.driven)
    (λ a b. (g.met.O.Drivable g.world.𝓛 g.world.𝓜 g.world.𝓡 ((λ s x. x), (λ x. x), (λ x. x), λ x. x)).repeats order.stop a b) c.in_ok-seals.ensures.many c.in_ok-seals.ensures.last
    (subst (λ xs. AreTrueTexts any input xs text) c.as_slice.ensures.value c.in_ok-text.ensures)

pub text_of_seals-requires-clause-sealed : goal.text_of_seals-requires-clause-sealed
text_of_seals-requires-clause-sealed g c κs within =
    subst (λ xs. AreSealedFrom c.args.history.now xs) (sym c.as_slice.ensures.value) c.in_ok-seals.ensures.each
