use Rattle.log_choices.proofs.ForcedReadsLaws.{table-forced}
use Rattle.log_choices.proofs.forced.forced_reads.Goals as goal

pub returns-clause-forced : goal.returns-clause-forced
returns-clause-forced c = (table-forced c.args.in_time c.args.log.now c.in_ok-found.found.seen c.in_ok-found.ensures.seen.seen).0

pub returns-clause-possible : goal.returns-clause-possible
returns-clause-possible c = (table-forced c.args.in_time c.args.log.now c.in_ok-found.found.seen c.in_ok-found.ensures.seen.seen).1
