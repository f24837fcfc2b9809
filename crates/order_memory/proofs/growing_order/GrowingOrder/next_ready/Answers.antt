use Rattle.std.proofs.Common.{arith}
use Rattle.order_memory.proofs.TakenPasts.{all-in}
use Rattle.order_memory.proofs.growing_order.GrowingOrder.next_ready.Goals as goal

pub returns : goal.returns
returns c =
    let ended = c.loop-session-test.false in
    let sessions = c.sessions-session-end.ensures.count in
    all-in c.args.h.now c.args.self.now c.requires.ready c.args.op c.requires.is_op c.requires.next c.args.sources.now c.requires.sources
    (λ t exists. c.loop-session.invariant t (omega arith))
