use Rattle.std.proofs.Common.{sym}
use Rattle.live_simulation.proofs.Sealers.{look_refused, look_there, look_done}
use Rattle.live_simulation.proofs.recording.Recording.look.Goals as goal

pub returns-in_default : goal.returns-in_default
returns-in_default g c = look_refused g.O.SeqObject.matches c.args.self.now c.args.z (sym c.in_default.ensures)

pub give-requires-after_bounds : goal.give-requires-after_bounds
give-requires-after_bounds g c κs within = look_there g.O.SeqObject.matches c.args.self.now c.args.z c.in-Some.cell (sym c.in-Some.ensures)

pub returns : goal.returns
returns g c = look_done g.O.SeqObject.matches c.args.self.now c.args.z c.in-Some.cell c.is_full-full.result c.give.new.self (sym c.in-Some.ensures) c.is_full-full.ensures c.give.ensures
