use Rattle.std.proofs.Common.{sym, subst}
use Rattle.log_choices.specs.ForcedSteps.{AreForcedReads}
use Rattle.log_choices.proofs.ForcedPasses.{none-forced}
use Rattle.log_choices.proofs.forced.found_by_passes.Goals as goal

pub loop-init : goal.loop-init
loop-init c = (
  c.in_ok-plan.ensures c.args.in_time,
  subst (AreForcedReads c.args.in_time c.args.log.now) (sym c.nothing-found.ensures.seen) (none-forced c.args.in_time c.args.log.now),
  c.nothing-found.ensures.lacking c.args.in_time c.args.log.now,
)

pub returns-then-not-is_within_limits-clause-seen : goal.returns-then-not-is_within_limits-clause-seen
returns-then-not-is_within_limits-clause-seen c =
    subst (AreForcedReads c.args.in_time c.args.log.now) (sym c.nothing-found.ensures.seen) (none-forced c.args.in_time c.args.log.now)

pub returns-then-not-is_within_limits-clause-lacking : goal.returns-then-not-is_within_limits-clause-lacking
returns-then-not-is_within_limits-clause-lacking c = c.nothing-found.ensures.lacking c.args.in_time c.args.log.now
