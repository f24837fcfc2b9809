use Rattle.std.proofs.Common.{◌≡◌, map, take}
use Rattle.live_replica.proofs.replica.writers.Given as goal

-- the sessions of the updates so far
abbrev pub invariant-loop-update : goal.invariant-loop-update
invariant-loop-update g l = l.order.items ≡ map (λ u. u.session) (take l.update-index l.updates)
