use Rattle.std.specs.List.{AllAdjacentBelow}
use Rattle.order_memory.specs.Steps.Written.{IsOne}
use Rattle.order_memory.proofs.differentiation.are_once.Given as goal

-- neighbours so far that write one value to one variable are one operation
abbrev pub invariant-loop-i : goal.invariant-loop-i
invariant-loop-i l = AllAdjacentBelow IsOne l.writes l.i
