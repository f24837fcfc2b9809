use Rattle.std.proofs.Common.{ℕ, List, subst}
use Rattle.std.proofs.lemmas.Result.{IfOk-weaker}
use Rattle.log_events.specs.Steps.CallKinds.{missed_keys}
use Rattle.log_events.specs.Steps.Tallies.{IsTally}
use Rattle.log_events.proofs.OutcomesLaws.{left_out-from}
use Rattle.log_events.proofs.outcomes.Outcomes.left_out.Goals as goal

pub returns : goal.returns
returns c = IfOk-weaker c.missed_reads.result _ _
    (λ tally is_tally. left_out-from c.self.inside.log.now c.args.self.now c.calls.result.now c.self.inside.returned.items c.self.inside.deleted.items tally.items
    c.self.view_is c.self.invariant c.calls.ensures.exact
    (subst (λ (l : List ℕ). IsTally (missed_keys c.calls.result.now) l tally.items) c.deref.ensures.value is_tally))
    c.missed_reads.ensures
