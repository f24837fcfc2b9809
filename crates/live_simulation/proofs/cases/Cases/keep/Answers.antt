use Rattle.live_simulation.proofs.RefuteSteps.{keeps}
use Rattle.live_simulation.proofs.cases.Cases.keep.Goals as goal

pub returns : goal.returns
returns g c = keeps c.args.self.now c.against-taken.new.self c.args.c c.args.pattern c.against-taken.result c.against-taken.ensures.refuted c.against-taken.ensures.refused
