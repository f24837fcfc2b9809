use Rattle.std.proofs.Common.{◌≡◌, subst, sym}
use Rattle.live_replica.specs.declared.delivery.Delivery.{Delivery}
use Rattle.live_replica.specs.Replicas.{ReplicaState, Settles}
use Rattle.live_replica.proofs.Keeping.{not_eager}
use Rattle.live_replica.proofs.replica.Replica.receive.Goals as goal

pub returns-in_ok-hold-in-Causal-clause-causal : goal.returns-in_ok-hold-in-Causal-clause-causal
returns-in_ok-hold-in-Causal-clause-causal g c = λ unknown causal.
    subst (λ (r : ReplicaState g.row.O-Start.Denot g.row.O-Call.Denot). Settles g.P.UpdateOrder.place r c.settle.new.self) c.in_ok-hold-in-Causal.ensures.held c.settle.ensures

pub returns-in_ok-hold-in-Causal-clause-eager : goal.returns-in_ok-hold-in-Causal-clause-eager
returns-in_ok-hold-in-Causal-clause-eager g c = λ unknown eager.
    absurd (not_eager c.self.inside.delivery (subst (λ (r : ReplicaState g.row.O-Start.Denot g.row.O-Call.Denot). r.delivery ≡ Delivery.Eager) (sym c.self.view_is) eager) c.in-Causal.is)
