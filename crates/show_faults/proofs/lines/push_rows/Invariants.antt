use Rattle.std.specs.Prelude.{◌+◌, ◌≤◌, length}
use Rattle.show_faults.proofs.lines.push_rows.Given as goal

abbrev pub invariant-loop-row : goal.invariant-loop-row
invariant-loop-row g l = length l.lines.items ≤ length l.initial.lines.items + l.row-index
