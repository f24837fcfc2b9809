use Rattle.std.proofs.Common.{◌≡◌, map, take}
use Rattle.log_events.specs.Histories.{clients}
use Rattle.log_choices.proofs.ClientRows.{rows_of}
use Rattle.log_choices.proofs.client_calls.client_calls.Given as goal

-- of the calls so far those of each client
abbrev pub invariant-loop-call : goal.invariant-loop-call
invariant-loop-call l = map (λ row. row.items) l.rows.items ≡ rows_of (clients l.log) (take l.call-index l.call-items)
