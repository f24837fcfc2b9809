use Rattle.judge_memory.specs.Lists.{IsKeyOf}
use Rattle.std.proofs.Common.{arith}
use Rattle.judge_memory.proofs.ListsLaws.{each-push, each-session, key-at, op-at}
use Rattle.judge_memory.proofs.variables.push_keys.Goals as goal

pub loop-call-preserved : goal.loop-call-preserved
loop-call-preserved c =
    let below = c.loop-call-test.true in
    rw c.in_ok-push.ensures.items
    (each-push c.args.h.now (IsKeyOf c.args.h.now) c.args.session c.loop-call.call-index _ _
    (op-at c.args.h.now _ _ _ c.session-call-items.ensures below)
    (key-at c.args.h.now _ _ _ c.session-call-items.ensures below _)
    c.loop-call.invariant)

pub returns : goal.returns
returns c =
    let up_to = c.loop-call.auto.call-index-end in
    let ended = c.loop-call-test.false in
    each-session c.args.h.now (IsKeyOf c.args.h.now) _ c.args.session _ _ c.requires.exists c.session-call-items.ensures (omega arith)
    c.loop-call.invariant
