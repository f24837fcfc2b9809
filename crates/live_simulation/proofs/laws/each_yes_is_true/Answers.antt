use Rattle.live_simulation.proofs.TrueAnswers.{yes_is_true}
use Rattle.live_simulation.proofs.laws.each_yes_is_true.Goals as goal

pub returns : goal.returns
returns g c = λ start k es run. yes_is_true g.O.SeqObject.matches g.O.SeqObject.answer g.O.Refutable.passes start k es run c.explained_certificates_show_their_criterion.ensures
