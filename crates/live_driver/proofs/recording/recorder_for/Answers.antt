use Rattle.std.specs.Arc.{arc_value}
use Rattle.live_driver.proofs.Recorders.{fresh_sessions}
use Rattle.live_driver.proofs.recording.recorder_for.Goals as goal

pub returns-in-Ok-clause-fresh : goal.returns-in-Ok-clause-fresh
returns-in-Ok-clause-fresh g c = fresh_sessions c.sessions.result c.most_calls.result _ (arc_value c.in-Ok.recorder.0) c.in-Ok.recorder.1.items c.args.input.now c.in-Ok.ensures.recorder c.sessions.ensures.count c.most_calls.ensures.most
