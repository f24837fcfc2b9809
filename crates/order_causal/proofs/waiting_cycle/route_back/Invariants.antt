use Rattle.std.proofs.Common.{◌≡◌, ◌-◌, ◌<◌, length}
use Rattle.model_history.specs.declared.op_id.OpId.{OpId}
use Rattle.order_causal.specs.Orders.{StandsAt}
use Rattle.order_causal.specs.Steps.Waiting.{IsRoute}
use Rattle.order_causal.specs.Schedules.{next_of}
use Rattle.order_causal.proofs.waiting_cycle.route_back.Given as goal

-- the route so far goes to the next operation of the session of the operation that is reached in the chain
abbrev pub invariant-loop-back : goal.invariant-loop-back
invariant-loop-back l = record {
  route : IsRoute l.waits l.route.items l.initial.reached l.reached;
  at : (a : OpId) → StandsAt l.chain (l.places.1 - l.back) a → l.reached ≡ next_of l.walk a.session;
  some : l.back < length l.route.items;
}
