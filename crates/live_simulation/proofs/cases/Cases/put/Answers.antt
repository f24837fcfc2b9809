use Rattle.live_simulation.proofs.PutSteps.{put_none, put_refused, put_done}
use Rattle.live_simulation.proofs.cases.Cases.put.Goals as goal

pub returns-in_default : goal.returns-in_default
returns-in_default g c = put_none g.O.SeqObject.answer g.O.Refutable.passes c.args.self.now c.args.c c.args.v c.in_default.ensures

pub returns-in-Ok : goal.returns-in-Ok
returns-in-Ok g c = put_done g.O.SeqObject.answer g.O.Refutable.passes c.args.self.now c.args.c c.args.v c.in-Some.verdict c.in-Some.ensures c.fill.new.self c.in-Ok.ensures.accepted c.in-Ok.ensures.filled

pub returns-in-Err : goal.returns-in-Err
returns-in-Err g c =
    put_refused g.O.SeqObject.answer g.O.Refutable.passes c.args.self.now c.args.c c.args.v c.in-Some.verdict c.in-Some.ensures c.in-Err.error c.into.result c.fill.new.self
    c.in-Err.ensures.refused c.into.ensures c.in-Err.ensures.unchanged
