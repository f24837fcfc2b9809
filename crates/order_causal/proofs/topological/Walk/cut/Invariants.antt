use Rattle.std.proofs.Common.{◌≡◌, ◌⊎◌, ◌≤◌, length, take}
use Rattle.order_causal.proofs.topological.Walk.cut.Given as goal

-- the walk is a front of what it was, and no more was taken back than is to be
abbrev pub invariant-loop-self : goal.invariant-loop-self
invariant-loop-self l = (l.self ≡ take (length l.self) l.fn.self) × ((l.len ≤ length l.self) ⊎ (l.self ≡ l.fn.self))

abbrev pub decreases-loop-self : goal.decreases-loop-self
decreases-loop-self l = length l.self
