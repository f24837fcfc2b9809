use Rattle.std.proofs.Common.{ℕ, ◌≤◌, List, sym, subst, arith, length}
use Rattle.std.specs.Prelude.{All}
use Rattle.std.proofs.lemmas.Result.{IfOk-weaker}
use Rattle.judge_memory.specs.LongHistories.{IsLongHistory}
use Rattle.log_events.specs.declared.limits.TheConstants.{MAX_EVENTS}
use Rattle.log_events.specs.Kept.{IsSmallCall}
use Rattle.log_choices.specs.ChosenHistories.{history_by}
use Rattle.log_choices.proofs.ChosenHistoriesKept.{chosen-long}
use Rattle.log_choices.proofs.chosen_history.start_of.Goals as goal

pub returns-clause-long : goal.returns-clause-long
returns-clause-long c =
    let es = c.args.log.now in
    let count = c.events-few.ensures.count in
    let most = c.events-few.ensures.few in
    let few : length es ≤ MAX_EVENTS = omega arith in
    let small = subst (All IsSmallCall) c.calls-small.ensures.exact c.calls-small.ensures.small in
    IfOk-weaker c.copied_starts.result _ _
    (λ start is f. subst (λ (l : List (ℕ × ℕ)). IsLongHistory (l, (history_by es f).1)) (sym is)
    (chosen-long es c.events_are_log.ensures few c.history_is_long.ensures small f))
    c.copied_starts.ensures
