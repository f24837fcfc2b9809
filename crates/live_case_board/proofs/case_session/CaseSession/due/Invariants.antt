use Rattle.std.proofs.Common.{ℕ, ◌<◌}
use Rattle.live_case_board.specs.Events.{IsFreeIn}
use Rattle.live_case_board.proofs.case_session.CaseSession.due.Given as goal

-- no row so far is free
abbrev pub invariant-loop-row : goal.invariant-loop-row
invariant-loop-row l = (i : ℕ) → i < l.row → ¬ IsFreeIn l.self i
