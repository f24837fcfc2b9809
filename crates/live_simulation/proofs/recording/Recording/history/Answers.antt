use Rattle.std.proofs.Common.{sym}
use Rattle.live_simulation.proofs.Shows.{not_sealed, is_sealed}
use Rattle.live_simulation.proofs.recording.Recording.history.Goals as goal

pub returns-in-None : goal.returns-in-None
returns-in-None g c = λ start k es shows. not_sealed start k es c.args.self.now shows c.args.z (sym c.in-None.ensures)

pub returns-in_ok-history-in-Some : goal.returns-in_ok-history-in-Some
returns-in_ok-history-in-Some g c = λ start k es shows.
    is_sealed start k es c.args.self.now shows c.args.z c.in-Some.plan.now c.in_ok-history-in-Some.history (sym c.in-Some.ensures) c.in_ok-history-in-Some.ensures
