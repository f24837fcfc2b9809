use Rattle.live_simulation.proofs.Sessions.{begin_at}
use Rattle.live_simulation.proofs.recording.Recording.begin.Goals as goal

pub returns : goal.returns
returns g c = begin_at g.O.SeqObject.matches c.args.self.now c.args.s c.args.call c.push_call.new.self c.at-op.result c.begun.result c.in_default.ensures c.at-op.ensures c.begun.ensures c.in_ok-push_call.ensures
