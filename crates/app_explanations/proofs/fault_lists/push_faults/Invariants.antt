use Rattle.std.specs.Prelude.{◌+◌, ◌≤◌, length}
use Rattle.app_explanations.proofs.fault_lists.push_faults.Given as goal

abbrev pub invariant-loop-fault : goal.invariant-loop-fault
invariant-loop-fault g l = length l.lines.items ≤ length l.initial.lines.items + l.fault-index
