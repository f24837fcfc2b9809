use Rattle.std.proofs.Common.{arith, refl}
use Rattle.live_replica.proofs.Keeping.{kept-none}
use Rattle.live_replica.proofs.replica.Replica.new.Goals as goal

pub returns : goal.returns
returns g c = rw (c.in_ok-log.ensures.start, c.in_ok-log.ensures.updates, c.new-2.ensures.items) refl

pub invariant_of-result : goal.invariant_of-result
invariant_of-result g c = (
  record { own = c.requires.session; few = c.requires.few; short = omega (arith, c.requires.few); spare = rw c.new-2.ensures.items (omega arith) },
  rw c.in_ok-log.ensures.updates (kept-none g.P.UpdateOrder.place g.P.UpdateOrder.in_order c.args.session c.args.delivery g.met.P.UpdateOrder.none_in_order),
)
