use Rattle.std.proofs.Common.{ℕ, ◌<◌}
use Rattle.pattern_check.specs.Kinds.{IsThinAirRead}
use Rattle.order_causal.specs.Orders.{op}
use Rattle.pattern_search.proofs.finding.first_thin_air_read.Given as goal

-- no operation of a session so far is a thin-air read
abbrev pub invariant-loop-session : goal.invariant-loop-session
invariant-loop-session l = (s i : ℕ) → s < l.session → ¬ IsThinAirRead l.h (op s i)
