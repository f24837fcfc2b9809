use Rattle.std.proofs.Common.{arith, refl}
use Rattle.judge_memory.specs.Lists.{IsSessionOf}
use Rattle.judge_memory.proofs.ListsLaws.{each-push, each-session, op-at}
use Rattle.judge_memory.proofs.sessions.push_session.Goals as goal

pub loop-operation-preserved : goal.loop-operation-preserved
loop-operation-preserved c = rw c.in_ok-push.ensures.items
    (each-push c.args.h.now IsSessionOf c.args.session c.loop-operation._operation-index c.args.session _
    (op-at c.args.h.now _ _ _ c.session-operation-items.ensures c.loop-operation-test.true) refl c.loop-operation.invariant)

pub returns : goal.returns
returns c =
    let up_to = c.loop-operation.auto._operation-index-end in
    let ended = c.loop-operation-test.false in
    each-session c.args.h.now IsSessionOf _ c.args.session _ _ c.requires.exists c.session-operation-items.ensures (omega arith)
    c.loop-operation.invariant
