use Rattle.std.proofs.Common.{List, ap, arith, rules, subst, subst₂, sym}
use Rattle.std.specs.Prelude.{Some}
use Rattle.live_replica.specs.Replaying.{IsAnswer}
use Rattle.live_replica.specs.Updates.{calls}
use Rattle.live_replica.specs.declared.update.UpdateOf.{UpdateOf}
use Rattle.live_replica.specs.Replicas.{after_operation, CanAct, IsOwnUpdate, ReplicaState}
use Rattle.live_replica.proofs.Keeping.{kept-own}
use Rattle.live_replica.proofs.replica.Replica.enter.Goals as goal

pub invariant_of-self-2 : goal.invariant_of-self-2
invariant_of-self-2 g c =
    let can = subst (λ (r : ReplicaState g.row.O-Start.Denot g.row.O-Call.Denot). CanAct r) (sym c.self.view_is) c.requires.can in
    let own = subst (λ (r : ReplicaState g.row.O-Start.Denot g.row.O-Call.Denot). IsOwnUpdate r c.args.update.call c.args.update) (sym c.self.view_is) c.requires.own in
    let bounds = c.self.invariant.0 in
    let room = c.in_ok-reserve.ensures.room in
    let less = c.in_ok-ret.ensures.room in (
      record { own = bounds.own; few = bounds.few; short = omega (arith, can.0); spare = search rules },
      rw (c.in_ok-ret.ensures.updates, c.reserve.ensures.updates)
          (kept-own g.P.UpdateOrder.place g.P.UpdateOrder.in_order c.self.inside.session c.self.inside.delivery c.self.inside.clock c.self.inside.log.updates c.args.update
          g.met.P.UpdateOrder.latest_in_order c.self.invariant.1 own.session own.stamp own.number own.seen),
    )

pub returns-clause-reply : goal.returns-clause-reply
returns-clause-reply g c =
    subst (λ (r : ReplicaState g.row.O-Start.Denot g.row.O-Call.Denot). IsAnswer g.O.SeqObject.query g.O.SeqObject.answer r.start (calls r.taken) c.args.update.call c.in_ok-ret.ret) c.self.view_is
    (subst₂ (λ (s : g.row.O-Start.Denot) (us : List (UpdateOf g.row.O-Call.Denot)). IsAnswer g.O.SeqObject.query g.O.SeqObject.answer s (calls us) c.args.update.call c.in_ok-ret.ret)
    c.reserve.ensures.start c.reserve.ensures.updates c.in_ok-ret.ensures.reply)

pub returns-clause-state : goal.returns-clause-state
returns-clause-state g c =
    rw (c.in_ok-ret.ensures.start, c.in_ok-ret.ensures.updates, c.reserve.ensures.start, c.reserve.ensures.updates)
    (ap (λ (r : ReplicaState g.row.O-Start.Denot g.row.O-Call.Denot). after_operation r (Some c.args.update)) c.self.view_is)

pub invariant_of-self : goal.invariant_of-self
invariant_of-self g c =
    let bounds = c.self.invariant.0 in (
      record { own = bounds.own; few = bounds.few; short = bounds.short; spare = omega (arith, bounds.spare, c.reserve.ensures.kept) },
      rw c.reserve.ensures.updates c.self.invariant.1,
    )
