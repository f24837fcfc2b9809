use Rattle.std.proofs.Common.{◌≡◌, ◌<◌, arith, ap, length, subst, sym}
use Rattle.std.proofs.lemmas.List.Edits.{length-remove}
use Rattle.live_replica.specs.declared.delivery.Delivery.{Delivery}
use Rattle.live_replica.specs.Replicas.{IsReady, ReplicaState}
use Rattle.live_replica.proofs.Keeping.{absent-next, kept-taken}
use Rattle.live_replica.proofs.replica.Replica.release.Goals as goal

pub invariant_of-self : goal.invariant_of-self
invariant_of-self g c =
    let held = subst (λ (r : ReplicaState g.row.O-Start.Denot g.row.O-Call.Denot). c.args.at < length r.held) (sym c.self.view_is) c.requires.held in
    let causal = subst (λ (r : ReplicaState g.row.O-Start.Denot g.row.O-Call.Denot). r.delivery ≡ Delivery.Causal) (sym c.self.view_is) c.requires.causal in
    let ready = subst (λ (r : ReplicaState g.row.O-Start.Denot g.row.O-Call.Denot). IsReady r c.args.update) (sym c.self.view_is) c.requires.ready in
    let bounds = c.self.invariant.0 in
    let kept = c.self.invariant.1 in
    let fewer = length-remove c.self.inside.held.items c.args.at held in
    let same = ap length c.remove.ensures.items in
    let room = c.take_in.ensures.room in (
      record { own = bounds.own; few = bounds.few; short = bounds.short; spare = omega arith },
      rw (c.take_in.ensures.updates, c.max-self-inside.ensures)
          (kept-taken g.P.UpdateOrder.place g.P.UpdateOrder.in_order c.self.inside.session c.self.inside.delivery c.self.inside.clock c.self.inside.log.updates c.args.update
          g.met.P.UpdateOrder.within g.met.P.UpdateOrder.delivered_order kept (absent-next c.self.inside.log.updates c.args.update (kept.first causal) ready.next)
          (λ same. ready.next) (λ same. ready.seen)),
    )
