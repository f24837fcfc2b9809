use Rattle.std.proofs.Common.{◌≡◌, take}
use Rattle.log_events.specs.Histories.{operations}
use Rattle.log_events.proofs.sessions.collect_operations.Given as goal

-- the operations of the calls so far
abbrev pub invariant-loop-call : goal.invariant-loop-call
invariant-loop-call l = l.session.items ≡ operations l.outcomes (take l.call-index l.calls)
