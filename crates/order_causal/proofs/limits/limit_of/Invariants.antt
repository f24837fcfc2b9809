use Rattle.std.proofs.Common.{◌<◌, ◌≤◌, ◌+◌, ℕ}
use Rattle.order_causal.specs.Orders.{op}
use Rattle.order_causal.specs.Vectors.{count}
use Rattle.order_causal.proofs.limits.limit_of.Given as goal

-- no operation so far waits for a later one of the session
abbrev pub invariant-loop-index : goal.invariant-loop-index
invariant-loop-index l = (i : ℕ) → i < l.index → count l.waits (op l.session i) l.session ≤ i + 1
