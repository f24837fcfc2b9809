use Rattle.std.proofs.Common.{◌≡◌, ℕ, ◌<◌, length, Some, slice_get}
use Rattle.model_history.specs.History.{session}
use Rattle.live_case_board.specs.Boards.{fresh_rows}
use Rattle.live_case_board.proofs.case_rows.CaseRows.certified.Given as goal

-- the rows of the sessions so far
abbrev pub invariant-loop-session : goal.invariant-loop-session
invariant-loop-session g l =
    (length l.sessions.items ≡ l.session)
    × ((s : ℕ) → s < l.session → slice_get l.sessions.items s ≡ Some (fresh_rows (length (session l.h s))))
