use Rattle.order_causal.specs.Orders.{op}
use Rattle.order_memory.specs.Steps.Indexed.{ListsReadsBefore}
use Rattle.order_memory.proofs.known_reads.known_reads.Given as goal

-- the known reads of the sessions so far are listed
abbrev pub invariant-loop-session : goal.invariant-loop-session
invariant-loop-session l = ListsReadsBefore l.h (op l.session 0) l.reads.items
