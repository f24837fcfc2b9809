use Rattle.log_events.proofs.OutcomesLaws.{outcomes-made}
use Rattle.log_events.proofs.outcomes.Outcomes.of.Goals as goal

pub invariant_of-result : goal.invariant_of-result
invariant_of-result c = outcomes-made c.args.log.now c.calls-calls.result.now c.in_ok-returned.returned.items c.in_ok-deleted.deleted.items
    c.calls-calls.ensures.exact c.calls-calls.ensures.small c.in_ok-returned.ensures.sorted c.in_ok-returned.ensures.exact
    c.in_ok-deleted.ensures.rising c.in_ok-deleted.ensures.exact
