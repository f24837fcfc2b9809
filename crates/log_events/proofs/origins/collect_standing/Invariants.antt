use Rattle.std.proofs.Common.{◌≡◌, take}
use Rattle.std.specs.Prelude.{filter}
use Rattle.std.specs.Option.{is_some}
use Rattle.log_events.specs.Events.{Call}
use Rattle.log_events.specs.Histories.{operation}
use Rattle.log_events.proofs.origins.collect_standing.Given as goal

-- those of the calls so far that have an operation
abbrev pub invariant-loop-call : goal.invariant-loop-call
invariant-loop-call l = l.standing.items ≡ filter (λ (a : Call). is_some (operation l.outcomes a.place a.call a.ending)) (take l.call-index l.calls)
