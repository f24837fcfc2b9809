use Rattle.order_causal.specs.Orders.{op}
use Rattle.order_memory.specs.Steps.Indexed.{ListsReadsBefore}
use Rattle.order_memory.proofs.known_reads.push_reads.Given as goal

-- the known reads so far are listed
abbrev pub invariant-loop-index : goal.invariant-loop-index
invariant-loop-index l = ListsReadsBefore l.h (op l.session l.index) l.reads.items
