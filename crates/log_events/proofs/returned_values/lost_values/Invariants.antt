use Rattle.std.proofs.Common.{◌≡◌, take}
use Rattle.log_events.specs.Steps.CallKinds.{lost_pairs}
use Rattle.log_events.proofs.returned_values.lost_values.Given as goal

-- the pairs of the calls so far
abbrev pub invariant-loop-call : goal.invariant-loop-call
invariant-loop-call l = l.pairs.items ≡ lost_pairs (take l.call-index l.calls)
