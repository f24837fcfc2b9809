use Rattle.std.proofs.Common.{ℕ, ◌<◌}
use Rattle.pattern_check.specs.Kinds.{IsThinAirRead}
use Rattle.order_causal.specs.Orders.{op}
use Rattle.pattern_search.proofs.finding.first_thin_air_read_of.Given as goal

-- no operation so far is a thin-air read
abbrev pub invariant-loop-index : goal.invariant-loop-index
invariant-loop-index l = (i : ℕ) → i < l.index → ¬ IsThinAirRead l.h (op l.session i)
