use Rattle.order_memory.specs.Steps.Conflicts.{IsUpToWrite}
use Rattle.order_memory.proofs.Conflicting.{AreRaisedBelow}
use Rattle.order_memory.proofs.conflicts.add_past_writes.Given as goal

-- the counts of the sessions so far are raised
abbrev pub invariant-loop-session : goal.invariant-loop-session
invariant-loop-session l = AreRaisedBelow (IsUpToWrite l.order l.read.key l.read.op) l.source l.fn.waits l.session l.waits
