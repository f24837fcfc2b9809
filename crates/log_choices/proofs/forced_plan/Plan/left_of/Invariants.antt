use Rattle.std.proofs.Common.{drop}
use Rattle.log_choices.specs.ForcedSteps.{IsLeft}
use Rattle.log_choices.proofs.forced_plan.Plan.left_of.Given as goal

-- those left of the deletes from here on
abbrev pub invariant-loop-number : goal.invariant-loop-number
invariant-loop-number l = IsLeft l.timed.in_time l.timed.log.now l.read.place l.read.end (drop l.number l.deletes) l.left
