use Rattle.std.proofs.Common.{ℕ, List, ap, sym, subst, ◌∙◌}
use Rattle.std.proofs.lemmas.Result.{IfOk-weaker}
use Rattle.judge_memory.specs.LongHistories.{IsLongHistory}
use Rattle.log_events.specs.declared.event.Event.{Event}
use Rattle.log_events.specs.Histories.{Operation}
use Rattle.log_choices.specs.declared.seen.Seen.{Seen}
use Rattle.log_choices.specs.ChoiceTables.{choice_in}
use Rattle.log_choices.specs.ChosenHistories.{history_by}
use Rattle.log_choices.proofs.ChosenShapes.{left_out-same}
use Rattle.log_choices.proofs.chosen_history.history_by.Goals as goal

pub of-requires-2 : goal.of-requires-2
of-requires-2 c =
    let sessions = c.in_ok-sessions.ensures
    ∙ ap (λ (v : List Event × List (ℕ × Seen)). (history_by v.0 (choice_in v.1)).1) c.in_ok-calls.ensures in
    subst (λ (l : List (List Operation)). IsLongHistory (c.in_ok-start.start, l)) (sym sessions) (c.in_ok-start.ensures.long (choice_in c.args.choice.now))

pub returns-then-is_empty : goal.returns-then-is_empty
returns-then-is_empty c =
    let es = c.args.log.now in
    let empty = c.is_empty.ensures.0 c.if-is_empty.true in
    IfOk-weaker c.history.result _ _
    (λ h is. is ∙ left_out-same es ∙ ap (λ (t : List (ℕ × Seen)). history_by es (choice_in t)) (sym empty)) c.history.ensures
