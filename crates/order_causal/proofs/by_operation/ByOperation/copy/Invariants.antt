use Rattle.std.proofs.Common.{◌≡◌, take}
use Rattle.order_causal.proofs.by_operation.ByOperation.copy.Given as goal

-- the sessions so far are copied
abbrev pub invariant-loop-rows : goal.invariant-loop-rows
invariant-loop-rows g l = l.sessions.items ≡ take l.rows-index l.rows-items
