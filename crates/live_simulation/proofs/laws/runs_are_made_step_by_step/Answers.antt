use Rattle.live_simulation.proofs.RunSteps.{run_none, run_more, run_last}
use Rattle.live_simulation.proofs.laws.runs_are_made_step_by_step.Goals as goal

pub returns-clause-none : goal.returns-clause-none
returns-clause-none g c = λ start k. run_none g.O.SeqObject.matches g.O.SeqObject.answer g.O.Refutable.passes start k

pub returns-clause-more : goal.returns-clause-more
returns-clause-more g c = λ start k es step reply. (
  λ run. run_last g.O.SeqObject.matches g.O.SeqObject.answer g.O.Refutable.passes start k es step reply run,
  λ both. run_more g.O.SeqObject.matches g.O.SeqObject.answer g.O.Refutable.passes start k es step reply both.0 both.1,
)
