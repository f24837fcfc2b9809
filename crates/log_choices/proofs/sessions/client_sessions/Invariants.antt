use Rattle.std.proofs.Common.{◌≡◌, map}
use Rattle.std.specs.List.{range_with_len}
use Rattle.log_choices.specs.ChoiceTables.{choice_in}
use Rattle.log_choices.specs.ChosenHistories.{client_session_by}
use Rattle.log_choices.proofs.sessions.client_sessions.Given as goal

-- the sessions of the clients so far
abbrev pub invariant-loop-row : goal.invariant-loop-row
invariant-loop-row l = l.sessions ≡ map (client_session_by l.calls.0 (choice_in l.calls.1)) (range_with_len 0 l.row-index)
