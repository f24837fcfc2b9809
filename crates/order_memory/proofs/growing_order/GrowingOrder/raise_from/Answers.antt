use Rattle.std.proofs.Common.{◌<◌, arith, refl, inl, inr, zero}
use Rattle.model_history.specs.History.{IsOp}
use Rattle.order_causal.specs.Orders.{op}
use Rattle.order_memory.proofs.GrowthLaws.{grows-step}
use Rattle.order_memory.proofs.GrowingSteps.{growing-pushed}
use Rattle.order_memory.proofs.RaisesMade.{raised-from, raise-made}
use Rattle.order_memory.proofs.growing_order.GrowingOrder.raise_from.Goals as goal

pub returns-then-end-index-clause-within : goal.returns-then-end-index-clause-within
returns-then-end-index-clause-within c = λ reads cause.
    let raised = c.in_ok-end.ensures.raised in
    record {
      grows = record { growing = raised.growing; steps = zero; made = raised.none c.if-end-index.true };
      past = raised.past;
    }

pub returns-then-end-index-clause-raised : goal.returns-then-end-index-clause-raised
returns-then-end-index-clause-raised c =
    raised-from c.args.h.now c.args.self.now c.raise_up_to.new.self c.args.session c.args.index c.in_ok-end.end c.args.other c.args.number c.args.cause
    c.in_ok-end.ensures.raised c.in_ok-end.ensures.stopped

pub returns-then-session-other-clause-within : goal.returns-then-session-other-clause-within
returns-then-session-other-clause-within c = λ reads cause.
    let h = c.args.h.now in
    let a = c.args.self.now in
    let b = c.raise_up_to.new.self in
    let raised = c.in_ok-end.ensures.raised in
    let from = raised.from in
    let apart = c.if-end-index.false in
    let some : c.args.index < c.in_ok-end.end = omega arith in
    let inside = raised.inside some in
    let most = c.requires.growing.past c.args.session in
    let is_op : IsOp h (op c.args.session c.args.index) = omega arith in
    record {
      grows = grows-step h ⊥ reads a _
          (growing-pushed h a b _ c.args.session c.args.index c.in_ok-end.end c.args.other c.args.number c.args.cause raised some is_op c.requires.other
          refl refl (rw c.at-op.ensures at c.in_ok-push.ensures.items) refl)
          (inl (raise-made h a b c.args.session c.args.index c.in_ok-end.end c.args.other c.args.number c.args.cause raised c.in_ok-end.ensures.stopped reads _ some is_op
          (cause (omega arith)) refl refl (rw c.at-op.ensures at c.in_ok-push.ensures.items) refl refl refl (inr (refl, c.if-session-other.true))));
      past = raised.past;
    }

pub returns-else-session-other-clause-within : goal.returns-else-session-other-clause-within
returns-else-session-other-clause-within c = λ reads cause.
    let h = c.args.h.now in
    let a = c.args.self.now in
    let b = c.raise_up_to.new.self in
    let raised = c.in_ok-end.ensures.raised in
    let from = raised.from in
    let apart = c.if-end-index.false in
    let some : c.args.index < c.in_ok-end.end = omega arith in
    let inside = raised.inside some in
    let most = c.requires.growing.past c.args.session in
    let is_op : IsOp h (op c.args.session c.args.index) = omega arith in
    record {
      grows = grows-step h ⊥ reads a _
          (growing-pushed h a b _ c.args.session c.args.index c.in_ok-end.end c.args.other c.args.number c.args.cause raised some is_op c.requires.other
          refl refl (rw c.at-op.ensures at c.in_ok-push.ensures.items) refl)
          (inl (raise-made h a b c.args.session c.args.index c.in_ok-end.end c.args.other c.args.number c.args.cause raised c.in_ok-end.ensures.stopped reads _ some is_op
          (cause (omega arith)) refl refl (rw c.at-op.ensures at c.in_ok-push.ensures.items) refl refl refl (inl (refl, c.if-session-other.false))));
      past = raised.past;
    }

pub returns-then-session-other-clause-growing : goal.returns-then-session-other-clause-growing
returns-then-session-other-clause-growing c =
    let h = c.args.h.now in
    let raised = c.in_ok-end.ensures.raised in
    let from = raised.from in
    let apart = c.if-end-index.false in
    let some : c.args.index < c.in_ok-end.end = omega arith in
    let inside = raised.inside some in
    let most = c.requires.growing.past c.args.session in
    let is_op : IsOp h (op c.args.session c.args.index) = omega arith in
    growing-pushed h c.args.self.now c.raise_up_to.new.self _ c.args.session c.args.index c.in_ok-end.end c.args.other c.args.number c.args.cause raised some is_op
    c.requires.other refl refl (rw c.at-op.ensures at c.in_ok-push.ensures.items) refl

pub returns-then-session-other-clause-raised : goal.returns-then-session-other-clause-raised
returns-then-session-other-clause-raised c =
    raised-from c.args.h.now c.args.self.now c.raise_up_to.new.self c.args.session c.args.index c.in_ok-end.end c.args.other c.args.number c.args.cause
    c.in_ok-end.ensures.raised c.in_ok-end.ensures.stopped

pub returns-else-session-other-clause-growing : goal.returns-else-session-other-clause-growing
returns-else-session-other-clause-growing c =
    let h = c.args.h.now in
    let raised = c.in_ok-end.ensures.raised in
    let from = raised.from in
    let apart = c.if-end-index.false in
    let some : c.args.index < c.in_ok-end.end = omega arith in
    let inside = raised.inside some in
    let most = c.requires.growing.past c.args.session in
    let is_op : IsOp h (op c.args.session c.args.index) = omega arith in
    growing-pushed h c.args.self.now c.raise_up_to.new.self _ c.args.session c.args.index c.in_ok-end.end c.args.other c.args.number c.args.cause raised some is_op
    c.requires.other refl refl (rw c.at-op.ensures at c.in_ok-push.ensures.items) refl

pub returns-else-session-other-clause-raised : goal.returns-else-session-other-clause-raised
returns-else-session-other-clause-raised c =
    raised-from c.args.h.now c.args.self.now c.raise_up_to.new.self c.args.session c.args.index c.in_ok-end.end c.args.other c.args.number c.args.cause
    c.in_ok-end.ensures.raised c.in_ok-end.ensures.stopped
