use Rattle.std.proofs.Common.{map, take}
use Rattle.judge_writer.specs.Steps.{AreWritten, operations_form}
use Rattle.judge_writer.proofs.session.write_each.Given as goal

-- the forms of the sessions so far
abbrev pub invariant-loop-s : goal.invariant-loop-s
invariant-loop-s l = AreWritten (map operations_form (take l.s l.history.1)) l.initial.out l.out
