use Rattle.live_seals.proofs.RunPlaces.{begun_counted, begun_there, ended_counted, ended_there}
use Rattle.live_seals.proofs.laws.operations_are_counted.Goals as goal

pub returns-clause-begun : goal.returns-clause-begun
returns-clause-begun g c = λ k cap es o run. (λ has. begun_counted k cap es run o has, λ less. begun_there k cap es run o.session o.index less)

pub returns-clause-ended : goal.returns-clause-ended
returns-clause-ended g c = λ k cap es o run. (λ has. ended_counted k cap es run o has, λ less. ended_there k cap es run o.session o.index less)
