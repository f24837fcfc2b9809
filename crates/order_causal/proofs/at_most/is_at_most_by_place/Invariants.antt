use Rattle.std.proofs.Common.{ℕ, ◌<◌, ◌≤◌, get_or}
use Rattle.order_causal.proofs.at_most.is_at_most_by_place.Given as goal

-- the counts so far are at most their bounds
abbrev pub invariant-loop-session : goal.invariant-loop-session
invariant-loop-session l = (s : ℕ) → s < l.session → get_or l.counts s 0 ≤ get_or l.bounds s 0
