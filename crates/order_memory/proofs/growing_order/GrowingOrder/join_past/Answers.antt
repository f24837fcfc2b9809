use Rattle.std.proofs.Common.{arith, inl, inr, ⊎_elim}
use Rattle.model_history.specs.History.{Precedes}
use Rattle.order_causal.specs.Vectors.{IsCounted}
use Rattle.order_memory.specs.Steps.GrowthSteps.{Always, NoReads}
use Rattle.order_memory.proofs.Joined.{joined-all, joined-next, joined-none}
use Rattle.order_memory.proofs.Raises.{grows-rises}
use Rattle.order_memory.proofs.growing_order.GrowingOrder.join_past.Goals as goal

pub loop-session-init : goal.loop-session-init
loop-session-init c = joined-none c.args.h.now c.args.self.now c.args.op c.args.before c.requires.growing c.requires.empty

pub loop-session-preserved : goal.loop-session-preserved
loop-session-preserved c =
    joined-next c.args.h.now c.args.self.now c.loop-session.self c.args.op c.args.before c.loop-session.from c.requires.apart c.loop-session.invariant
    c.raise_alone.new.self c.in-Some.session c.count-count.result c.in-Some.ensures.0 c.count-count.ensures c.in-Some.ensures.2 c.in_ok-raise_alone.ensures

pub raise_alone-requires-clause-held : goal.raise_alone-requires-clause-held
raise_alone-requires-clause-held c =
    let value = c.count-count.ensures in
    let held = c.loop-session.invariant.grows.growing.counts.held c.args.before c.in-Some.session c.requires.before in
    omega arith

pub raise_alone-requires-clause-cause : goal.raise_alone-requires-clause-cause
raise_alone-requires-clause-cause c =
    let value = c.count-count.ensures in (
      ⊎_elim
          (λ (counted : IsCounted c.args.self.now.counts c.args.op c.args.before).
          let rises = grows-rises c.args.h.now Always NoReads c.args.self.now c.loop-session.self c.loop-session.invariant.grows c.args.op c.args.before.session in
          let now : IsCounted c.loop-session.self.counts c.args.op c.args.before = omega arith in
          inl now)
          (λ (precedes : Precedes c.args.before c.args.op). inr precedes)
          c.requires.cause,
      omega arith,
    )

pub returns : goal.returns
returns c =
    joined-all c.args.h.now c.args.self.now c.loop-session.self c.args.op c.args.before c.loop-session.from c.requires.apart c.loop-session.invariant c.in_default.ensures
