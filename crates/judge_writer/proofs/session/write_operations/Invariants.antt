use Rattle.std.proofs.Common.{map, take}
use Rattle.judge_writer.specs.Steps.{AreWritten, operation_form}
use Rattle.judge_writer.proofs.session.write_operations.Given as goal

-- the forms of the operations so far
abbrev pub invariant-loop-entry : goal.invariant-loop-entry
invariant-loop-entry l = AreWritten (map (λ e. operation_form e.0 e.1) (take l.entry-index l.entries)) l.initial.out l.out
