use Rattle.std.proofs.Common.{ℕ, reverse}
use Rattle.std.specs.List.{sum_by}
use Rattle.pattern_check.specs.Paths.{GoesFrom}
use Rattle.order_causal.specs.Vectors.{list_of, IsCounted}
use Rattle.pattern_search.proofs.search.routes_back.route_back.Given as goal

-- the operations so far go from what is reached, which has `from` in its past
abbrev pub invariant-back : goal.invariant-back
invariant-back l = IsCounted l.vectors l.reached l.from × GoesFrom l.order (reverse l.ops.items) l.reached l.fn.to

-- what is reached has fewer and fewer operations in its past
abbrev pub decreases-back : goal.decreases-back
decreases-back l = sum_by (λ (n : ℕ). n) (list_of l.vectors l.reached)
