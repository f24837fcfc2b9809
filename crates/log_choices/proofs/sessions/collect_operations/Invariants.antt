use Rattle.std.proofs.Common.{◌≡◌, take}
use Rattle.std.specs.Prelude.{filter_map}
use Rattle.log_events.specs.Events.{Call}
use Rattle.log_choices.specs.ChoiceTables.{choice_in}
use Rattle.log_choices.specs.ChosenHistories.{operation_by}
use Rattle.log_choices.proofs.sessions.collect_operations.Given as goal

-- the operations of the calls so far
abbrev pub invariant-loop-call : goal.invariant-loop-call
invariant-loop-call l = l.session.items ≡ filter_map (λ (a : Call). operation_by l.calls.0 (choice_in l.calls.1) a.place a.call a.ending) (take l.call-index l.row)
