use Rattle.std.proofs.Common.{arith}
use Rattle.order_memory.proofs.TakenPasts.{left-less, some-more, some-next, some-none}
use Rattle.order_memory.proofs.growing_order.GrowingOrder.take_in_ready.Goals as goal

pub loop-index-init : goal.loop-index-init
loop-index-init c = some-none c.args.h.now c.args.self.now c.requires.ready c.args.op c.requires.is_op c.requires.next

pub loop-index-preserved : goal.loop-index-preserved
loop-index-preserved c =
    let is = c.in-Some.ensures.0 in
    let below = c.in-Some.ensures.1 in
    some-next c.args.h.now c.args.self.now c.requires.ready c.args.op c.requires.is_op c.requires.next c.loop-index.self c.loop-index.invariant c.take_in.new.self c.args.session
    (omega arith) (rw (c.at-next.ensures, c.from.ensures, is) at c.in_ok-take_in.ensures)

pub loop-index-smaller : goal.loop-index-smaller
loop-index-smaller c =
    let is = c.in-Some.ensures.0 in
    let below = c.in-Some.ensures.1 in
    left-less c.args.h.now c.args.self.now c.requires.ready c.args.op c.requires.is_op c.requires.next c.loop-index.self c.loop-index.invariant c.take_in.new.self c.args.session
    c.requires.exists (omega arith) (rw (c.at-next.ensures, c.from.ensures, is) at c.in_ok-take_in.ensures)

pub returns-clause-more : goal.returns-clause-more
returns-clause-more c =
    some-more c.args.h.now c.args.self.now c.requires.ready c.args.op c.requires.is_op c.requires.next c.loop-index.self c.loop-index.invariant
    c.args.sources.now c.args.session c.requires.first c.in_default.ensures
