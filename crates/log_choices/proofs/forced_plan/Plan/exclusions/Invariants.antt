use Rattle.std.specs.Prelude.{All}
use Rattle.log_choices.specs.Exclusions.{IsExclusion}
use Rattle.log_choices.proofs.forced_plan.Plan.exclusions.Given as goal

-- what is excluded so far
abbrev pub invariant-loop-delete : goal.invariant-loop-delete
invariant-loop-delete l = All (IsExclusion l.timed.in_time l.timed.log.now l.read.place) l.found.items
