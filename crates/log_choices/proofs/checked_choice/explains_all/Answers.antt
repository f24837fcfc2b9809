use Rattle.std.proofs.Common.{◌<◌, ◌≤◌, List, length, subst, arith}
use Rattle.std.proofs.lemmas.Option.{slice_get_within}
use Rattle.log_events.specs.Events.{Call, run_calls}
use Rattle.log_choices.specs.ChoiceTables.{choice_in}
use Rattle.log_choices.proofs.CheckedChoices.{all-explained, explained-more}
use Rattle.log_choices.proofs.checked_choice.explains_all.Goals as goal

pub loop-number-preserved : goal.loop-number-preserved
loop-number-preserved c =
    explained-more c.args.timed.now.log.now c.args.timed.now.in_time (choice_in c.args.table.now) c.loop-number.number c.loop-number.invariant
    (c.explains.ensures c.if-not-explains.false)

pub returns : goal.returns
returns c =
    let es = c.args.timed.now.log.now in
    let long = subst (λ (l : List Call). length l ≤ c.loop-number.number) c.calls-number-end.ensures.exact c.loop-number-test.false in
    λ _. all-explained es c.args.timed.now.in_time (choice_in c.args.table.now) (λ n a at.
    let short = slice_get_within (run_calls es) n a at in
    let below : n < c.loop-number.number = omega arith in c.loop-number.invariant n a below at)
