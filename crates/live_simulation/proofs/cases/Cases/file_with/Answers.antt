use Rattle.live_simulation.proofs.WorkSteps.{no_file}
use Rattle.live_simulation.proofs.cases.Cases.file_with.Goals as goal

pub returns-in-None : goal.returns-in-None
returns-in-None g c = no_file c.args.self.now.files c.args.c c.args.op c.in-None.ensures
