use Rattle.std.proofs.Common.{ℕ, ◌<◌}
use Rattle.order_causal.specs.Orders.{op}
use Rattle.order_memory.specs.Relations.{HB}
use Rattle.pattern_search.proofs.search.happened.least_before_itself_of.Given as goal

-- no operation of the session so far is before itself
abbrev pub invariant-loop-index : goal.invariant-loop-index
invariant-loop-index l = (i : ℕ) → i < l.index → ¬ HB l.order l.relation.0 (op l.session i) (op l.session i)
