use Rattle.std.proofs.Common.{◌≡◌, ◌<◌, ◌≤◌}
use Rattle.model_history.specs.declared.op_id.OpId.{OpId}
use Rattle.order_memory.specs.Steps.GrowthSteps.{GrowsWithin, IsIn, NoReads}
use Rattle.order_causal.specs.Vectors.{count}
use Rattle.order_memory.proofs.growing_order.GrowingOrder.add_behind.Given as goal

-- in the sessions so far what comes behind the operation counts as much
abbrev pub invariant-loop-session : goal.invariant-loop-session
invariant-loop-session l = record {
  within : GrowsWithin l.h NoReads l.fn.self l.self;
  same : count l.self.counts l.raised.op l.raised.session ≡ l.count;
  behind : (b : OpId) → b.session < l.session → IsIn l.self b → l.raised.op.index < count l.self.counts b l.raised.op.session
      → l.count ≤ count l.self.counts b l.raised.session;
}
