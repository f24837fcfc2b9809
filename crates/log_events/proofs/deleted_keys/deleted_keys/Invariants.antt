use Rattle.std.proofs.Common.{◌≡◌, take}
use Rattle.log_events.specs.Steps.CallKinds.{deleted_keys}
use Rattle.log_events.proofs.deleted_keys.deleted_keys.Given as goal

-- the keys of the calls so far
abbrev pub invariant-loop-call : goal.invariant-loop-call
invariant-loop-call l = l.keys.items ≡ deleted_keys (take l.call-index l.calls)
