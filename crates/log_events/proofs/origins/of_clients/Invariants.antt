use Rattle.std.proofs.Common.{◌≡◌, map}
use Rattle.std.specs.List.{range_with_len}
use Rattle.log_events.specs.Origins.{client_origins}
use Rattle.log_events.proofs.origins.of_clients.Given as goal

-- the calls of the clients so far
abbrev pub invariant-loop-client : goal.invariant-loop-client
invariant-loop-client l = l.origins ≡ map (client_origins l.outcomes) (range_with_len 0 l.client)
