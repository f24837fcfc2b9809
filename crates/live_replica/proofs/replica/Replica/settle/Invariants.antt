use Rattle.std.proofs.Common.{◌≡◌, length}
use Rattle.live_replica.specs.declared.delivery.Delivery.{Delivery}
use Rattle.live_replica.specs.Replicas.{ReplicaState, Settles}
use Rattle.live_replica.proofs.replica.Replica.settle.Given as goal

-- what it settles to from here on is what it settles to from the start
abbrev pub invariant-loop-at : goal.invariant-loop-at
invariant-loop-at g l = (l.self.delivery ≡ Delivery.Causal)
    × ((r : ReplicaState g.row.O-Start.Denot g.row.O-Call.Denot) → Settles g.P.UpdateOrder.place l.self r → Settles g.P.UpdateOrder.place l.fn.self r)

-- the updates that are held
abbrev pub decreases-loop-at : goal.decreases-loop-at
decreases-loop-at g l = length l.self.held
