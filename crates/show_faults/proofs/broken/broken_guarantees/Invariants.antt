use Rattle.std.specs.Prelude.{◌≤◌, length}
use Rattle.show_faults.proofs.broken.broken_guarantees.Given as goal

abbrev pub invariant-loop-operation : goal.invariant-loop-operation
invariant-loop-operation g l = length l.broken.listed.items ≤ l.most
