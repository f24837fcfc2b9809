use Rattle.std.specs.Prelude.{All}
use Rattle.log_choices.specs.ForcedSteps.{IsReplacing}
use Rattle.log_choices.proofs.forced_plan.Plan.replacing.Given as goal

-- the writes so far
abbrev pub invariant-loop-client : goal.invariant-loop-client
invariant-loop-client l = All (IsReplacing l.timed.in_time l.timed.log.now l.self.writes.items l.read.key l.read.place) l.numbers.items
