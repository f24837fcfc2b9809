use Rattle.std.proofs.Common.{◌≡◌, ap, sym, subst, ◌∙◌}
use Rattle.std.specs.Prelude.{Contains, Option}
use Rattle.std.specs.Option.{is_some}
use Rattle.log_events.specs.Events.{Call, run_calls}
use Rattle.log_events.specs.Histories.{Operation}
use Rattle.log_events.proofs.Loops.{filter_more-some, filter_more-none}
use Rattle.log_choices.specs.ChoiceTables.{choice_in}
use Rattle.log_choices.specs.ChosenHistories.{operation_by}
use Rattle.log_choices.proofs.origins.collect_kept.Goals as goal
use Rattle.log_choices.proofs.origins.collect_kept.Goals.{then-is_some+in_ok-push, else-is_some}

pub operation-requires : goal.operation-requires
operation-requires c = subst (Contains (run_calls c.args.calls.now.0)) (sym c.call-item.is)
    (c.requires c.loop-call.call-index c.call-item.result c.loop-call-test.true)

pub loop-call-preserved : goal.loop-call-preserved
loop-call-preserved c =
    let has = λ (a : Call). is_some (operation_by c.args.calls.now.0 (choice_in c.args.calls.now.1) a.place a.call a.ending) in
    let calls = c.args.row.now in
    let i = c.loop-call.call-index in
    let a = c.call-item.result in
    let same : c.is_some.result ≡ has a = c.is_some.ensures ∙ ap (λ (o : Option Operation). is_some o) c.operation.ensures in
    elim c.if-is_some.branch [
      | then-is_some+in_ok-push w ↦ rw (w.kept-is, w.in_ok-push.ensures.items, c.loop-call.invariant)
          (sym (filter_more-some has calls i a c.loop-call-test.true c.call-item.is (sym same ∙ w.if-is_some.true)))
      | else-is_some w ↦ rw (w.kept-is, c.loop-call.invariant)
          (sym (filter_more-none has calls i a c.loop-call-test.true c.call-item.is (sym same ∙ w.if-is_some.false)))
    ]
