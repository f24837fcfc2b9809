use Rattle.std.proofs.Common.{sym}
use Rattle.live_simulation.proofs.Shows.{show_refused, show_done}
use Rattle.live_simulation.proofs.recording.Recording.show.Goals as goal

pub returns-in-None : goal.returns-in-None
returns-in-None g c = show_refused g.O.SeqObject.matches c.args.self.now c.args.z (sym c.in-None.ensures)

pub returns-in_ok-history-in-Some : goal.returns-in_ok-history-in-Some
returns-in_ok-history-in-Some g c = show_done g.O.SeqObject.matches c.args.self.now c.args.z c.in-Some.plan.now c.in_ok-history-in-Some.history (sym c.in-Some.ensures) c.in_ok-history-in-Some.ensures
