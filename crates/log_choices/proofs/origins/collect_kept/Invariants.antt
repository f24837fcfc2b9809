use Rattle.std.proofs.Common.{◌≡◌, take}
use Rattle.std.specs.Prelude.{filter}
use Rattle.std.specs.Option.{is_some}
use Rattle.log_events.specs.Events.{Call}
use Rattle.log_choices.specs.ChoiceTables.{choice_in}
use Rattle.log_choices.specs.ChosenHistories.{operation_by}
use Rattle.log_choices.proofs.origins.collect_kept.Given as goal

-- those of the calls so far that have an operation
abbrev pub invariant-loop-call : goal.invariant-loop-call
invariant-loop-call l = l.kept.items ≡ filter (λ (a : Call). is_some (operation_by l.calls.0 (choice_in l.calls.1) a.place a.call a.ending)) (take l.call-index l.row)
