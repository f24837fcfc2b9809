use Rattle.std.proofs.Common.{ap, arith}
use Rattle.std.proofs.lemmas.List.{length_push}
use Rattle.live_replica.specs.Replicas.{hold, ReplicaState}
use Rattle.live_replica.proofs.replica.Replica.hold.Goals as goal

pub returns-clause-held : goal.returns-clause-held
returns-clause-held g c =
    rw (c.reserve.ensures.start, c.reserve.ensures.updates, c.in_ok-push.ensures.items)
    (ap (λ (r : ReplicaState g.row.O-Start.Denot g.row.O-Call.Denot). hold r c.args.update) c.self.view_is)

pub invariant_of-self : goal.invariant_of-self
invariant_of-self g c =
    let bounds = c.self.invariant.0 in (
      record { own = bounds.own; few = bounds.few; short = bounds.short; spare = omega (arith, bounds.spare, c.reserve.ensures.kept) },
      rw c.reserve.ensures.updates c.self.invariant.1,
    )

pub invariant_of-self-2 : goal.invariant_of-self-2
invariant_of-self-2 g c =
    let bounds = c.self.invariant.0 in (
      record { own = bounds.own; few = bounds.few; short = bounds.short; spare = rw c.in_ok-push.ensures.items (let more = length_push c.self.inside.held.items c.args.update in let room = c.in_ok-reserve.ensures.room in let size = c.len.ensures in omega (arith, more, room, size)) },
      rw c.reserve.ensures.updates c.self.invariant.1,
    )

pub invariant_of-self-in_err-push : goal.invariant_of-self-in_err-push
invariant_of-self-in_err-push g c =
    let bounds = c.self.invariant.0 in (
      record { own = bounds.own; few = bounds.few; short = bounds.short; spare = rw c.in_err-push.ensures.items (omega (arith, bounds.spare, c.reserve.ensures.kept)) },
      rw c.reserve.ensures.updates c.self.invariant.1,
    )
