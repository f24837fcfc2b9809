use Rattle.std.proofs.Common.{sym, subst, ◌∙◌}
use Rattle.std.specs.Prelude.{Contains}
use Rattle.log_events.specs.Events.{Call, run_calls}
use Rattle.log_events.proofs.Loops.{filter_map_more-some, filter_map_more-none, None-from}
use Rattle.log_choices.specs.ChoiceTables.{choice_in}
use Rattle.log_choices.specs.ChosenHistories.{operation_by}
use Rattle.log_choices.proofs.sessions.collect_operations.Goals as goal
use Rattle.log_choices.proofs.sessions.collect_operations.Goals.{in-Some+in_ok-push, in_default}

pub operation-requires : goal.operation-requires
operation-requires c = subst (Contains (run_calls c.args.calls.now.0)) (sym c.call-item.is)
    (c.requires c.loop-call.call-index c.call-item.result c.loop-call-test.true)

pub loop-call-preserved : goal.loop-call-preserved
loop-call-preserved c =
    let of_call = λ (a : Call). operation_by c.args.calls.now.0 (choice_in c.args.calls.now.1) a.place a.call a.ending in
    elim c.match-operation.branch [
      | in-Some+in_ok-push w ↦ rw (w.session-is, w.in_ok-push.ensures.items, c.loop-call.invariant)
          (sym (filter_map_more-some of_call c.args.row.now c.loop-call.call-index c.call-item.result
          c.loop-call-test.true c.call-item.is w.in-Some.operation (sym w.in-Some.ensures)))
      | in_default w ↦ rw (w.session-is, c.loop-call.invariant)
          (sym (filter_map_more-none of_call c.args.row.now c.loop-call.call-index c.call-item.result
          c.loop-call-test.true c.call-item.is (sym c.operation.ensures ∙ None-from c.operation.result w.in_default.not-Some)))
    ]
