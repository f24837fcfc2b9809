use Rattle.std.proofs.Common.{ap, ◌∙◌}
use Rattle.live_replica.specs.Replicas.{ReplicaState}
use Rattle.live_replica.proofs.Settling.{settles-more, fewer-held}
use Rattle.live_replica.proofs.replica.Replica.settle.Goals as goal

pub loop-at-smaller : goal.loop-at-smaller
loop-at-smaller g c = fewer-held g.P.UpdateOrder.place c.loop-at.self c.release.new.self c.in-Some.at c.in-Some.update c.in-Some.ensures c.release.ensures

pub loop-at-preserved : goal.loop-at-preserved
loop-at-preserved g c = (
  ap (λ (r : ReplicaState g.row.O-Start.Denot g.row.O-Call.Denot). r.delivery) c.release.ensures ∙ c.loop-at.invariant.0,
  λ r settles. c.loop-at.invariant.1 r (settles-more g.P.UpdateOrder.place c.loop-at.self c.release.new.self r c.in-Some.at c.in-Some.update c.in-Some.ensures c.release.ensures settles),
)
