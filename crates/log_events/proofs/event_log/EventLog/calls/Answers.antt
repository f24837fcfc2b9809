use Rattle.std.proofs.Common.{List, length, ap, sym, subst, ◌∙◌, arith}
use Rattle.std.specs.Prelude.{All}
use Rattle.log_events.specs.Events.{Call}
use Rattle.log_events.specs.Kept.{IsSmallCall}
use Rattle.log_events.proofs.PushedEvents.{length-run_calls}
use Rattle.log_events.proofs.event_log.EventLog.calls.Goals as goal

pub returns-clause-few : goal.returns-clause-few
returns-clause-few c =
    let few = length-run_calls c.self.inside.past.events in
    let same = ap length (c.as_slice.ensures.value ∙ c.self.invariant.0.calls_are) in
    let bound = c.self.invariant.0.few in
    omega arith

pub returns-clause-small : goal.returns-clause-small
returns-clause-small c = subst (λ (l : List Call). All IsSmallCall l) (sym c.as_slice.ensures.value) c.self.invariant.0.small_calls
