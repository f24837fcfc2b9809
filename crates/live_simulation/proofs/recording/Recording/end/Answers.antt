use Rattle.live_simulation.proofs.Sessions.{end_at}
use Rattle.live_simulation.proofs.recording.Recording.end.Goals as goal

pub returns : goal.returns
returns g c = end_at g.O.SeqObject.matches c.args.self.now c.args.s c.args.ret c.push_return.new.self c.at-op.result c.ended.result c.in_default.ensures c.at-op.ensures c.ended.ensures c.in_ok-push_return.ensures
