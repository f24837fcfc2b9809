use Rattle.log_choices.specs.ForcedSteps.{AreLacking}
use Rattle.log_choices.proofs.ForcedPasses.{IsPassed}
use Rattle.log_choices.proofs.forced_pass.pass.Given as goal

abbrev pub invariant-loop-call : goal.invariant-loop-call
invariant-loop-call l = IsPassed l.timed.in_time l.timed.log.now l.call-index l.plan l.pasts.items l.found.seen
    × AreLacking l.timed.in_time l.timed.log.now l.found.lacking
