use Rattle.std.proofs.Common.{◌≡◌, rules, subst, sym, false}
use Rattle.live_replica.specs.declared.delivery.Delivery.{Delivery}
use Rattle.live_replica.specs.Replicas.{ignores, ReplicaState}
use Rattle.live_replica.proofs.Keeping.{absent-unknown, kept-taken, not_eager}
use Rattle.live_replica.proofs.replica.Replica.take_now.Goals as goal

pub invariant_of-self-2 : goal.invariant_of-self-2
invariant_of-self-2 g c =
    let eager = subst (λ (r : ReplicaState g.row.O-Start.Denot g.row.O-Call.Denot). r.delivery ≡ Delivery.Eager) (sym c.self.view_is) c.requires.eager in
    let unknown = subst (λ (r : ReplicaState g.row.O-Start.Denot g.row.O-Call.Denot). ignores r c.args.update ≡ false) (sym c.self.view_is) c.requires.unknown in
    let bounds = c.self.invariant.0 in
    let room = c.in_ok-reserve.ensures.room in
    let less = c.take_in.ensures.room in (
      record { own = bounds.own; few = bounds.few; short = bounds.short; spare = search rules },
      rw (c.take_in.ensures.updates, c.max-self-inside.ensures, c.reserve.ensures.updates)
          (kept-taken g.P.UpdateOrder.place g.P.UpdateOrder.in_order c.self.inside.session c.self.inside.delivery c.self.inside.clock c.self.inside.log.updates c.args.update
          g.met.P.UpdateOrder.within g.met.P.UpdateOrder.delivered_order c.self.invariant.1 (absent-unknown c.self.inside.session c.self.inside.sessions c.self.inside.log.updates c.self.inside.held.items c.args.update unknown)
          (λ causal. absurd (not_eager c.self.inside.delivery eager causal)) (λ causal. absurd (not_eager c.self.inside.delivery eager causal))),
    )
