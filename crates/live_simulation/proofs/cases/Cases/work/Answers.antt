use Rattle.live_simulation.proofs.WorkSteps.{work_none, work_done}
use Rattle.live_simulation.proofs.cases.Cases.work.Goals as goal

pub returns-in_default : goal.returns-in_default
returns-in_default g c = work_none g.O.SeqObject.answer g.O.Refutable.passes c.args.self.now c.args.c c.args.op c.in_default.ensures

pub returns : goal.returns
returns g c =
    work_done g.O.SeqObject.answer g.O.Refutable.passes c.args.self.now c.args.c c.args.op c.in-Some.file.now c.in_ok-outcome.outcome c.given-number.result c.give.new.self c.in-Some.ensures.0
    c.in-Some.ensures.1 c.in_ok-outcome.ensures c.given-number.ensures c.in_ok-give.ensures
