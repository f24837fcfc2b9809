use Rattle.order_causal.specs.Waits.{AreAlike, AreWaitsFor}
use Rattle.order_memory.proofs.Conflicting.{IsDueBelow}
use Rattle.order_memory.proofs.conflicts.waits_with_conflicts.Given as goal

-- what is to be waited for by the reads so far
abbrev pub invariant-loop-read : goal.invariant-loop-read
invariant-loop-read l = record {
  alike : AreAlike l.waits l.order.1;
  so_far : AreWaitsFor (IsDueBelow l.order l.read-items l.read-index) l.waits;
}
