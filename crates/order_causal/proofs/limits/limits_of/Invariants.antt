use Rattle.std.proofs.Common.{◌≡◌, ◌<◌, ℕ, length, get_or}
use Rattle.order_causal.specs.Steps.Waiting.{IsLimit}
use Rattle.order_causal.proofs.limits.limits_of.Given as goal

-- the sessions so far have their limits
abbrev pub invariant-loop-session : goal.invariant-loop-session
invariant-loop-session l = record {
  size : length l.limits.items ≡ l.session;
  each : (s : ℕ) → s < l.session → IsLimit l.waits s (get_or l.limits.items s 0);
}
