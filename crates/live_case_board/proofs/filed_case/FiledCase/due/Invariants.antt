use Rattle.std.proofs.Common.{◌<◌}
use Rattle.model_history.specs.declared.op_id.OpId.{OpId}
use Rattle.live_case_board.specs.Events.{IsFree}
use Rattle.live_case_board.proofs.filed_case.FiledCase.due.Given as goal

-- no operation of the sessions so far is free
abbrev pub invariant-loop-session : goal.invariant-loop-session
invariant-loop-session g l = (o : OpId) → o.session < l.session → ¬ IsFree l.self o
