use Rattle.order_memory.proofs.Outcomes.{on_ok-one}
use Rattle.order_memory.proofs.TakenPasts.{included-past, last-source, left-fewer, some-all, some-none, some-then, unraised-own}
use Rattle.order_memory.proofs.growing_order.GrowingOrder.take_past.Goals as goal

pub include_past-requires-clause-own : goal.include_past-requires-clause-own
include_past-requires-clause-own c = unraised-own c.args.h.now c.args.self.now c.requires.ready c.args.op c.requires.is_op c.requires.next

pub returns-then-self-eq0 : goal.returns-then-self-eq0
returns-then-self-eq0 c =
    included-past c.args.h.now c.args.self.now c.requires.ready c.args.op c.requires.is_op c.requires.next c.include_past.new.self c.if-self-eq0.true c.include_past.ensures

pub loop-session-init : goal.loop-session-init
loop-session-init c = some-none c.args.h.now c.args.self.now c.requires.ready c.args.op c.requires.is_op c.requires.next

pub loop-session-preserved : goal.loop-session-preserved
loop-session-preserved c =
    some-then c.args.h.now c.args.self.now c.requires.ready c.args.op c.requires.is_op c.requires.next c.loop-session.self c.loop-session.invariant c.take_in_ready.new.self
    c.in_ok-take_in_ready.ensures.some

pub loop-session-smaller : goal.loop-session-smaller
loop-session-smaller c =
    left-fewer c.args.h.now c.args.self.now c.requires.ready c.args.op c.requires.is_op c.requires.next c.loop-session.self c.loop-session.invariant c.take_in_ready.new.self
    c.in-Some.session c.in-Some.ensures.0 c.in_ok-take_in_ready.ensures.some c.in_ok-take_in_ready.ensures.more

pub take_in-requires-clause-source : goal.take_in-requires-clause-source
take_in-requires-clause-source c =
    last-source c.args.h.now c.args.self.now c.requires.ready c.args.op c.requires.is_op c.requires.next c.loop-session.self c.loop-session.invariant c.in_default.ensures
    c.args.sources.now c.requires.sources

pub returns : goal.returns
returns c =
    on_ok-one c.take_in.result _ _
    (λ one. some-all c.args.h.now c.args.self.now c.requires.ready c.args.op c.requires.is_op c.requires.next c.loop-session.self c.loop-session.invariant c.in_default.ensures
    c.take_in.new.self one)
    c.take_in.ensures
