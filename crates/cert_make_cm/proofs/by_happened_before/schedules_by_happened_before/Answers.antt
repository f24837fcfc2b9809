use Rattle.std.proofs.Common.{◌≡◌, length, ap, arith}
use Rattle.order_memory.specs.Memory.{MemoryHistory}
use Rattle.order_causal.proofs.GatheredLaws.{gathered-each, gathered-shape}
use Rattle.cert_make_cm.specs.ByTurns.{TakesTurns}
use Rattle.cert_make_cm.proofs.by_happened_before.schedules_by_happened_before.Goals as goal

pub returns-clause-each : goal.returns-clause-each
returns-clause-each c = λ o is_op.
    let h = c.args.order.now in
    let lengths = ap (λ (g : MemoryHistory). length g.1) c.history-h.ensures in
    let count = c.sessions-session-end.ensures.count in
    let test = c.loop-session-test.false in
    let up_to = c.loop-session.auto.session-end in
    let ended : c.loop-session.session ≡ length h.1 = omega arith in
    gathered-each h (TakesTurns h) c.loop-session.session c.loop-session.schedules ended c.loop-session.invariant o is_op

pub returns-clause-shape : goal.returns-clause-shape
returns-clause-shape c =
    let h = c.args.order.now in
    let lengths = ap (λ (g : MemoryHistory). length g.1) c.history-h.ensures in
    let count = c.sessions-session-end.ensures.count in
    let test = c.loop-session-test.false in
    let up_to = c.loop-session.auto.session-end in
    let ended : c.loop-session.session ≡ length h.1 = omega arith in
    gathered-shape h (TakesTurns h) c.loop-session.session c.loop-session.schedules ended c.loop-session.invariant
