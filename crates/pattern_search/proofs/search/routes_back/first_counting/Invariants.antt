use Rattle.std.proofs.Common.{ℕ, ◌<◌}
use Rattle.order_causal.specs.Orders.{op}
use Rattle.order_causal.specs.Vectors.{IsCounted}
use Rattle.pattern_search.proofs.search.routes_back.first_counting.Given as goal

-- no operation so far counts it
abbrev pub invariant-loop-index : goal.invariant-loop-index
invariant-loop-index l = (i : ℕ) → i < l.index → ¬ IsCounted l.vectors (op l.op.session i) l.earlier
