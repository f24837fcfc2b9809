use Rattle.std.proofs.Common.{map, take}
use Rattle.judge_writer.specs.Steps.{AreWritten, initial_form}
use Rattle.judge_writer.proofs.start.write_initials.Given as goal

-- the forms of the initial values so far
abbrev pub invariant-loop-entry : goal.invariant-loop-entry
invariant-loop-entry l = AreWritten (map initial_form (take l.entry-index l.entries)) l.initial.out l.out
