use Rattle.std.proofs.Common.{◌<◌, ◌≤◌, ◌≢◌, ℕ, get_or}
use Rattle.order_causal.specs.Schedules.{placed}
use Rattle.order_causal.proofs.topological.Walk.first_missing.Given as goal

-- the sessions so far have no count above what is placed
abbrev pub invariant-loop-session : goal.invariant-loop-session
invariant-loop-session l = (s : ℕ) → l.start ≤ s → s < l.session → s ≢ l.own → get_or l.counts s 0 ≤ placed l.self s
