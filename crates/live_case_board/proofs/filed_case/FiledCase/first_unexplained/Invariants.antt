use Rattle.std.proofs.Common.{◌<◌}
use Rattle.model_history.specs.declared.op_id.OpId.{OpId}
use Rattle.live_case_board.specs.Events.{IsRow, IsExplained}
use Rattle.live_case_board.proofs.filed_case.FiledCase.first_unexplained.Given as goal

-- the operations of the sessions so far are explained
abbrev pub invariant-loop-session : goal.invariant-loop-session
invariant-loop-session g l = (o : OpId) → o.session < l.session → IsRow l.self o → IsExplained l.self o
