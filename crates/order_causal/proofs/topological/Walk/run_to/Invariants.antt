use Rattle.std.proofs.Common.{◌≤◌, ℕ, length, get_or}
use Rattle.std.specs.Prelude.{max}
use Rattle.order_causal.specs.Topological.{AreSeen, IsWalk}
use Rattle.order_causal.specs.Schedules.{placed}
use Rattle.order_causal.proofs.Walked.{room}
use Rattle.order_causal.proofs.topological.Walk.run_to.Given as goal

-- the walk so far goes by the rule and is within the limits
abbrev pub invariant-loop-session : goal.invariant-loop-session
invariant-loop-session l = record {
  walk : IsWalk l.vectors l.limits l.fn.self l.self;
  within : (s : ℕ) → placed l.self s ≤ max (placed l.fn.self s) (get_or l.limits s 0);
  seen : AreSeen l.vectors l.self l.seen;
}

-- how many operations the limits still leave
abbrev pub decreases-loop-session : goal.decreases-loop-session
decreases-loop-session l = room (length l.limits) l.limits l.self
