use Rattle.std.proofs.Common.{◌≡◌, map}
use Rattle.std.specs.List.{range_with_len}
use Rattle.log_events.specs.Histories.{client_session}
use Rattle.log_events.proofs.sessions.client_sessions.Given as goal

-- the sessions of the clients so far
abbrev pub invariant-loop-client : goal.invariant-loop-client
invariant-loop-client l = l.sessions ≡ map (client_session l.outcomes) (range_with_len 0 l.client)
