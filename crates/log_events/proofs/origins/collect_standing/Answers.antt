use Rattle.std.proofs.Common.{◌≡◌, ap, sym, subst, ◌∙◌}
use Rattle.std.specs.Prelude.{Contains, Option}
use Rattle.std.specs.Option.{is_some}
use Rattle.log_events.specs.Events.{Call, run_calls}
use Rattle.log_events.specs.Histories.{Operation, operation}
use Rattle.log_events.proofs.Loops.{filter_more-some, filter_more-none}
use Rattle.log_events.proofs.origins.collect_standing.Goals as goal
use Rattle.log_events.proofs.origins.collect_standing.Goals.{then-is_some+in_ok-push, else-is_some}

pub operation-requires : goal.operation-requires
operation-requires c = subst (Contains (run_calls c.args.outcomes.now)) (sym c.call-item.is)
    (c.requires c.loop-call.call-index c.call-item.result c.loop-call-test.true)

pub loop-call-preserved : goal.loop-call-preserved
loop-call-preserved c =
    let stands = λ (a : Call). is_some (operation c.args.outcomes.now a.place a.call a.ending) in
    let calls = c.args.calls.now in
    let i = c.loop-call.call-index in
    let a = c.call-item.result in
    let same : c.is_some.result ≡ stands a = c.is_some.ensures ∙ ap (λ (o : Option Operation). is_some o) c.operation.ensures in
    elim c.if-is_some.branch [
      | then-is_some+in_ok-push w ↦ rw (w.standing-is, w.in_ok-push.ensures.items, c.loop-call.invariant)
          (sym (filter_more-some stands calls i a c.loop-call-test.true c.call-item.is (sym same ∙ w.if-is_some.true)))
      | else-is_some w ↦ rw (w.standing-is, c.loop-call.invariant)
          (sym (filter_more-none stands calls i a c.loop-call-test.true c.call-item.is (sym same ∙ w.if-is_some.false)))
    ]
