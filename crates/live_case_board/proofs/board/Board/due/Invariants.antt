use Rattle.std.proofs.Common.{ℕ, ◌<◌}
use Rattle.live_case_board.specs.Events.{IsIdleAt}
use Rattle.live_case_board.proofs.board.Board.due.Given as goal

-- nothing of the cases so far is handed out
abbrev pub invariant-loop-number : goal.invariant-loop-number
invariant-loop-number g l = (i : ℕ) → i < l.number → IsIdleAt l.self i
