use Rattle.std.proofs.Common.{◌+◌, None, ap, arith, subst, sym}
use Rattle.std.proofs.lemmas.Result.{err_from_is_err_and}
use Rattle.live_replica.specs.Replicas.{after_operation, CanAct, ReplicaState}
use Rattle.live_replica.specs.Replaying.{IsAnswer}
use Rattle.live_replica.specs.Updates.{calls}
use Rattle.live_replica.proofs.Keeping.{kept-clock}
use Rattle.live_replica.proofs.replica.Replica.ask.Goals as goal

pub invariant_of-self-2 : goal.invariant_of-self-2
invariant_of-self-2 g c =
    let can = subst (λ (r : ReplicaState g.row.O-Start.Denot g.row.O-Call.Denot). CanAct r) (sym c.self.view_is) c.requires.can in
    let bounds = c.self.invariant.0 in
    rw c.ask.ensures.unchanged (
      record { own = bounds.own; few = bounds.few; short = omega (arith, can.0); spare = bounds.spare },
      kept-clock g.P.UpdateOrder.place g.P.UpdateOrder.in_order c.self.inside.session c.self.inside.delivery c.self.inside.clock (c.self.inside.clock + 1)
          c.self.inside.log.updates (omega arith) c.self.invariant.1,
    )

pub invariant_of-self : goal.invariant_of-self
invariant_of-self g c = rw c.ask.ensures.unchanged c.self.invariant

pub returns-clause-reply : goal.returns-clause-reply
returns-clause-reply g c =
    subst (λ (r : ReplicaState g.row.O-Start.Denot g.row.O-Call.Denot).
    IsAnswer g.O.SeqObject.query g.O.SeqObject.answer r.start (calls r.taken) c.args.call c.in_ok-ret.ret)
    c.self.view_is c.in_ok-ret.ensures.reply

pub returns-clause-state : goal.returns-clause-state
returns-clause-state g c =
    rw c.ask.ensures.unchanged (ap (λ (r : ReplicaState g.row.O-Start.Denot g.row.O-Call.Denot). after_operation r None) c.self.view_is)

pub returns-in_err-ret-clause-unchanged : goal.returns-in_err-ret-clause-unchanged
returns-in_err-ret-clause-unchanged g c =
    let p = err_from_is_err_and c.from_residual.result c.from_residual.ensures.1 in
    rw (p.1, c.ask.ensures.unchanged) c.self.view_is
