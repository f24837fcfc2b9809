use Rattle.std.proofs.Common.{List, ap, sym, subst, ◌∙◌, arith, length}
use Rattle.std.specs.Prelude.{Contains}
use Rattle.std.proofs.lemmas.List.{take_all}
use Rattle.log_events.specs.Events.{Call, run_calls}
use Rattle.log_events.proofs.ListPlaces.{length-filter_map}
use Rattle.log_events.proofs.Loops.{filter_map_more-some, filter_map_more-none, None-from}
use Rattle.log_choices.specs.ChoiceTables.{choice_in}
use Rattle.log_choices.specs.Steps.ChosenCalls.{left_out_key, left_out_keys}
use Rattle.log_choices.proofs.left_out.left_out_keys.Goals as goal
use Rattle.log_choices.proofs.left_out.left_out_keys.Goals.{in-Some+in_ok-push, in_default}

pub left_out_key-requires : goal.left_out_key-requires
left_out_key-requires c =
    let same = c.calls-call-items.ensures.exact ∙ ap run_calls c.log.ensures in
    subst (λ (l : List Call). Contains l c.call-item.result) same (c.loop-call.call-index, c.loop-call-test.true, sym c.call-item.is)

pub loop-call-preserved : goal.loop-call-preserved
loop-call-preserved c =
    let of_call = λ (a : Call). left_out_key c.args.reads.now.0 (choice_in c.args.reads.now.1) a.place a.call a.ending in
    let calls = c.calls-call-items.result.now in
    elim c.match-left_out_key.branch [
      | in-Some+in_ok-push w ↦ rw (w.keys-is, w.in_ok-push.ensures.items, c.loop-call.invariant)
          (sym (filter_map_more-some of_call calls c.loop-call.call-index c.call-item.result
          c.loop-call-test.true c.call-item.is w.in-Some.key (sym w.in-Some.ensures)))
      | in_default w ↦ rw (w.keys-is, c.loop-call.invariant)
          (sym (filter_map_more-none of_call calls c.loop-call.call-index c.call-item.result
          c.loop-call-test.true c.call-item.is (sym c.left_out_key.ensures ∙ None-from c.left_out_key.result w.in_default.not-Some)))
    ]

pub returns-clause-exact : goal.returns-clause-exact
returns-clause-exact c =
    let f = choice_in c.args.reads.now.1 in
    let calls = c.calls-call-items.result.now in
    c.loop-call.invariant ∙ ap (left_out_keys c.args.reads.now.0 f) (take_all c.loop-call.call-index calls c.loop-call-test.false ∙ c.calls-call-items.ensures.exact
    ∙ ap run_calls c.log.ensures)

pub returns-clause-few : goal.returns-clause-few
returns-clause-few c =
    let f = choice_in c.args.reads.now.1 in
    let calls = c.calls-call-items.result.now in
    let all = c.loop-call.invariant ∙ ap (left_out_keys c.args.reads.now.0 f) (take_all c.loop-call.call-index calls c.loop-call-test.false) in
    let long = ap length all in
    let fewer = length-filter_map (λ (a : Call). left_out_key c.args.reads.now.0 f a.place a.call a.ending) calls in
    let few = c.calls-call-items.ensures.few in
    omega arith
