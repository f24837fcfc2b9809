use Rattle.live_replica.specs.Steps.Logs.{NoneReady}
use Rattle.live_replica.proofs.replica.Replica.first_ready.Given as goal

-- none of the held updates so far is ready
abbrev pub invariant-loop-at : goal.invariant-loop-at
invariant-loop-at g l = NoneReady l.self l.held l.at
