use Rattle.std.proofs.Common.{List, Option, subst, arith}
use Rattle.model_objects.specs.declared.register.RegisterRet.{RegisterRet}
use Rattle.order_memory.specs.Memory.{MemoryCall}
use Rattle.judge_cores.specs.Parts.{CanFollow}
use Rattle.judge_cores.proofs.PartSessions.{operation_more}
use Rattle.judge_cores.proofs.part.operations_at.Goals as goal

pub loop-op-preserved : goal.loop-op-preserved
loop-op-preserved c =
    let follows = subst (λ (es : List (MemoryCall × Option RegisterRet)). CanFollow es c.operation_at-operation.result) c.deref.ensures.value
    (c.can_follow.ensures c.if-not-can_follow.false) in
    rw c.in_ok-push.ensures.items (operation_more c.args.session.now c.loop-op.operations.items c.operation_at-operation.result c.place-place.result
    c.requires c.operation_at-operation.ensures c.loop-op.invariant (omega arith) follows)
