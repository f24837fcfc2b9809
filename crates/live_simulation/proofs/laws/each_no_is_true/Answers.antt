use Rattle.live_simulation.proofs.TrueAnswers.{no_is_true}
use Rattle.live_simulation.proofs.laws.each_no_is_true.Goals as goal

pub returns : goal.returns
returns g c = λ start k es run. no_is_true g.O.SeqObject.matches g.O.SeqObject.answer g.O.Refutable.passes start k es run g.O.Refutable.excluded c.passing_patterns_exclude.ensures.excluded c.passing_patterns_exclude.ensures.not_met
