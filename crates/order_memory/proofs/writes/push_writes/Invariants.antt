use Rattle.order_causal.specs.Orders.{op}
use Rattle.order_memory.specs.Steps.Written.{ListsWritesBefore}
use Rattle.order_memory.proofs.writes.push_writes.Given as goal

-- the writes so far are listed
abbrev pub invariant-loop-index : goal.invariant-loop-index
invariant-loop-index l = ListsWritesBefore l.h (op l.session l.index) l.writes.items
