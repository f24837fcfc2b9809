use Rattle.std.proofs.Common.{◌-◌, ◌+◌, ◌≤◌, ◌<◌, arith, lt_of_not-le}
use Rattle.std.specs.Prelude.{slice_index}
use Rattle.std.proofs.lemmas.List.{get_or_read}
use Rattle.order_causal.specs.Orders.{op}
use Rattle.order_causal.specs.Vectors.{count}
use Rattle.order_memory.proofs.GrowingSteps.{monotone-to}
use Rattle.order_memory.proofs.growing_order.GrowingOrder.near_end.Goals as goal

pub loop-step-init : goal.loop-step-init
loop-step-init c =
    let sessions = c.requires.growing.sessions in
    let exists = c.requires.exists in
    let at = get_or_read c.args.self.now.past.items _ _ (omega arith) c.index.ensures 0 in
    let past = c.requires.growing.past c.args.session in
    let short = c.requires.growing.short c.args.session in
    record {
      some = omega arith;
      few = omega arith;
      inside = omega arith;
      behind = λ i above below. absurd (omega arith);
    }

pub is_behind-requires-clause-inside : goal.is_behind-requires-clause-inside
is_behind-requires-clause-inside c =
    let past = c.requires.growing.past c.args.session in
    let inside = c.loop-step.invariant.inside in
    let some = c.loop-step.invariant.some in
    let test = c.loop-step-test.true in
    omega arith

pub loop-step-preserved : goal.loop-step-preserved
loop-step-preserved c =
    let order = c.args.self.now in
    let high = c.loop-step.high in
    let step = c.loop-step.step in
    let inside = c.loop-step.invariant.inside in
    let some = c.loop-step.invariant.some in
    let test = c.loop-step-test.true in
    let yes = c.is_behind.ensures.0 c.if-not-is_behind.false in
    let few = c.loop-step.invariant.few in
    record {
      some = omega arith;
      few = omega arith;
      inside = omega arith;
      behind = λ i above below.
          let rises = monotone-to order.counts (λ s. slice_index order.past.items s) c.requires.monotone c.args.session (high - step) i c.args.op.session (omega arith) below in
          omega arith;
    }

pub returns-then-not-is_behind : goal.returns-then-not-is_behind
returns-then-not-is_behind c =
    let order = c.args.self.now in
    let high = c.loop-step.high in
    let step = c.loop-step.step in
    let inside = c.loop-step.invariant.inside in
    let some = c.loop-step.invariant.some in
    let test = c.loop-step-test.true in
    let less : count order.counts (op c.args.session (high - step)) c.args.op.session < c.args.op.index + 1 =
    lt_of_not-le (λ (more : c.args.op.index + 1 ≤ count order.counts (op c.args.session (high - step)) c.args.op.session).
    let is = c.is_behind.ensures.1 (omega arith) in
    let not = c.if-not-is_behind.true in
    absurd cc) in
    record {
      ordered = omega arith;
      inside = inside;
      before = λ i below.
          let rises = monotone-to order.counts (λ s. slice_index order.past.items s) c.requires.monotone c.args.session i (high - step) c.args.op.session (omega arith) (omega arith) in
          omega arith;
      behind = c.loop-step.invariant.behind;
    }

pub returns : goal.returns
returns c = record {
  ordered = omega arith;
  inside = c.loop-step.invariant.inside;
  before = λ i below. absurd (omega arith);
  behind = c.loop-step.invariant.behind;
}
