use Rattle.live_seals.proofs.RunPlaces.{ended_fewer, one_pending, begun_fits}
use Rattle.live_seals.proofs.laws.sessions_are_sequential.Goals as goal

pub returns-clause-ended : goal.returns-clause-ended
returns-clause-ended g c = λ k cap es s run. ended_fewer k cap es run s

pub returns-clause-pending : goal.returns-clause-pending
returns-clause-pending g c = λ k cap es s run. one_pending k cap es run s

pub returns-clause-places : goal.returns-clause-places
returns-clause-places g c = λ k cap es s run. begun_fits k cap es run s
