use Rattle.std.proofs.Common.{ℕ, ◌<◌}
use Rattle.live_case_board.specs.Steps.InSessions.{IsExplainedIn}
use Rattle.live_case_board.proofs.case_session.CaseSession.first_unexplained.Given as goal

-- the rows so far are explained
abbrev pub invariant-loop-row : goal.invariant-loop-row
invariant-loop-row l = (i : ℕ) → i < l.row → IsExplainedIn l.self i
