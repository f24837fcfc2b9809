use Rattle.order_memory.specs.Relations.{IsEdge}
use Rattle.pattern_check.proofs.Neighbours.{AreRelatedUpTo}
use Rattle.pattern_check.proofs.routes.is_path.Given as goal

-- each operation so far is joined to the next
abbrev pub invariant-loop-i : goal.invariant-loop-i
invariant-loop-i g l = AreRelatedUpTo (IsEdge (g.M.KnownMemory.history l.h)) l.ops l.i
