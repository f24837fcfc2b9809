use Rattle.std.specs.Prelude.{◌≡◌, ◌<◌}
use Rattle.model_history.specs.declared.op_id.OpId.{OpId}
use Rattle.model_history.specs.History.{IsOp, number}
use Rattle.judge_session_orders.specs.LoneSources.{IsLone}
use Rattle.judge_session_orders.proofs.lone_sources.may_lack_order.Given as goal

abbrev pub invariant-loop-operation : goal.invariant-loop-operation
invariant-loop-operation l =
    (r : OpId) → IsOp l.index.history r → r.session ≡ l.session → number l.index.history r < l.operation → IsLone l.index.history r
