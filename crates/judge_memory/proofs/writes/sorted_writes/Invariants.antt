use Rattle.order_causal.specs.Orders.{op}
use Rattle.order_memory.specs.Steps.Written.{ListsWritesBefore}
use Rattle.judge_memory.proofs.writes.sorted_writes.Given as goal

-- the writes of the sessions so far are listed
abbrev pub invariant-loop-session : goal.invariant-loop-session
invariant-loop-session l = ListsWritesBefore l.h (op l.session 0) l.writes.items
