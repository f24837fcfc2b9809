use Rattle.std.proofs.Common.{◌≡◌, ℕ, ◌<◌, length}
use Rattle.model_history.specs.History.{session}
use Rattle.order_causal.specs.Schedules.{placed}
use Rattle.cert_check.proofs.shape.names_all.Given as goal

-- the sessions so far occur as often as they have operations
abbrev pub invariant-loop-session : goal.invariant-loop-session
invariant-loop-session g l = (s : ℕ) → s < l.session → placed l.list s ≡ length (session l.h s)
