use Rattle.std.proofs.Common.{ap, sym, ◌∙◌}
use Rattle.std.proofs.lemmas.List.{take_all}
use Rattle.log_events.specs.Events.{Call}
use Rattle.log_events.specs.Steps.CallKinds.{missed_key, missed_keys}
use Rattle.log_events.proofs.Loops.{filter_map_more-some, filter_map_more-none, None-from}
use Rattle.log_events.proofs.deleted_keys.missed_keys.Goals as goal
use Rattle.log_events.proofs.deleted_keys.missed_keys.Goals.{in-Some+in_ok-push, in_default}

pub loop-call-preserved : goal.loop-call-preserved
loop-call-preserved c = elim c.match-missed_key.branch [
  | in-Some+in_ok-push w ↦ rw (w.keys-is, w.in_ok-push.ensures.items, c.loop-call.invariant)
      (sym (filter_map_more-some (λ (a : Call). missed_key a.call a.ending) c.args.calls.now c.loop-call.call-index c.call-item.result
      c.loop-call-test.true c.call-item.is w.in-Some.key (sym w.in-Some.ensures)))
  | in_default w ↦ rw (w.keys-is, c.loop-call.invariant)
      (sym (filter_map_more-none (λ (a : Call). missed_key a.call a.ending) c.args.calls.now c.loop-call.call-index c.call-item.result
      c.loop-call-test.true c.call-item.is (sym c.missed_key.ensures ∙ None-from c.missed_key.result w.in_default.not-Some)))
]

pub returns : goal.returns
returns c = c.loop-call.invariant ∙ ap missed_keys (take_all c.loop-call.call-index c.args.calls.now c.loop-call-test.false)
