use Rattle.std.proofs.Common.{arith}
use Rattle.judge_memory.specs.Parts.{IsPart}
use Rattle.judge_memory.proofs.ListsLaws.{each-push, each-session, entry-at, op-at}
use Rattle.judge_memory.proofs.reads.push_parts.Goals as goal

pub loop-operation-preserved : goal.loop-operation-preserved
loop-operation-preserved c =
    let below = c.loop-operation-test.true in
    rw c.in_ok-push.ensures.items
    (each-push c.args.h.now (IsPart c.args.h.now) c.args.session c.loop-operation.operation-index _ _
    (op-at c.args.h.now _ _ _ c.session-operation-items.ensures below)
    (c.part_of.ensures _ (entry-at c.args.h.now _ _ _ c.session-operation-items.ensures below _))
    c.loop-operation.invariant)

pub returns : goal.returns
returns c =
    let up_to = c.loop-operation.auto.operation-index-end in
    let ended = c.loop-operation-test.false in
    each-session c.args.h.now (IsPart c.args.h.now) _ c.args.session _ _ c.requires.exists c.session-operation-items.ensures (omega arith)
    c.loop-operation.invariant
