use Rattle.std.proofs.Common.{◌-◌, ◌/◌, ◌+◌, ap, arith, ℕ}
use Rattle.std.specs.Prelude.{slice_index}
use Rattle.model_history.specs.declared.op_id.OpId.{OpId}
use Rattle.order_causal.specs.Vectors.{count}
use Rattle.order_memory.proofs.GrowingSteps.{monotone-to}
use Rattle.order_memory.proofs.growing_order.GrowingOrder.first_behind.Goals as goal

pub loop-low-preserved-then-op-from : goal.loop-low-preserved-then-op-from
loop-low-preserved-then-op-from c =
    let order = c.args.self.now in
    let middle : ℕ = c.loop-low.low + (c.loop-low.high - c.loop-low.low) / 2 in
    let ordered = c.loop-low.invariant.ordered in
    let inside = c.loop-low.invariant.inside in
    let less = c.loop-low-test.true in
    let counts = c.if-op-from.true in
    let value = rw c.session_place.ensures at c.count.ensures in
    let at = ap (λ (o : OpId). count order.counts o c.args.op.session) c.at-other.ensures in
    record {
      ordered = omega arith;
      inside = omega arith;
      before = c.loop-low.invariant.before;
      behind = λ i above below.
          let rises = monotone-to order.counts (λ s. slice_index order.past.items s) c.requires.monotone c.args.session middle i c.args.op.session above below in
          omega arith;
    }

pub loop-low-preserved : goal.loop-low-preserved
loop-low-preserved c =
    let order = c.args.self.now in
    let middle : ℕ = c.loop-low.low + (c.loop-low.high - c.loop-low.low) / 2 in
    let ordered = c.loop-low.invariant.ordered in
    let inside = c.loop-low.invariant.inside in
    let less = c.loop-low-test.true in
    let counts = c.if-op-from.false in
    let value = rw c.session_place.ensures at c.count.ensures in
    let at = ap (λ (o : OpId). count order.counts o c.args.op.session) c.at-other.ensures in
    record {
      ordered = omega arith;
      inside = inside;
      before = λ i below.
          let rises = monotone-to order.counts (λ s. slice_index order.past.items s) c.requires.monotone c.args.session i middle c.args.op.session (omega arith) (omega arith) in
          omega arith;
      behind = c.loop-low.invariant.behind;
    }

pub loop-low-init : goal.loop-low-init
loop-low-init c = record {
  ordered = c.near_end-range.ensures.ordered;
  inside = c.near_end-range.ensures.inside;
  before = c.near_end-range.ensures.before;
  behind = c.near_end-range.ensures.behind;
}
