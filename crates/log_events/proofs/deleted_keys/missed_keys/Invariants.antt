use Rattle.std.proofs.Common.{◌≡◌, take}
use Rattle.log_events.specs.Steps.CallKinds.{missed_keys}
use Rattle.log_events.proofs.deleted_keys.missed_keys.Given as goal

-- the keys of the calls so far
abbrev pub invariant-loop-call : goal.invariant-loop-call
invariant-loop-call l = l.keys.items ≡ missed_keys (take l.call-index l.calls)
