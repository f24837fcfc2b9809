use Rattle.log_choices.specs.ForcedSteps.{AreForcedReads, AreLacking, IsPlan}
use Rattle.log_choices.proofs.forced.found_by_passes.Given as goal

abbrev pub invariant-loop : goal.invariant-loop
invariant-loop l = IsPlan l.in_time l.log l.plan × AreForcedReads l.in_time l.log l.found.seen
    × AreLacking l.in_time l.log l.found.lacking
