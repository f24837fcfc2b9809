use Rattle.live_simulation.proofs.CasesKept.{seals_cut}
use Rattle.live_simulation.proofs.laws.seals_are_consistent_cuts.Goals as goal

pub returns : goal.returns
returns g c = λ start k es run. seals_cut g.O.SeqObject.matches g.O.SeqObject.answer g.O.Refutable.passes start k es run
