use Rattle.std.proofs.Common.{ℕ, take}
use Rattle.std.specs.Prelude.{◌↔◌, Contains}
use Rattle.log_events.specs.Steps.CallKinds.{got_pairs, lost_pairs}
use Rattle.log_events.proofs.returned_values.returned_values.Given as goal

-- of the pairs of lost writes, those that the calls so far got
abbrev pub invariant-loop-call : goal.invariant-loop-call
invariant-loop-call l = (x v : ℕ) → Contains (lost_pairs l.calls) (x, v) → Contains l.pairs.items (x, v) ↔ Contains (got_pairs (take l.call-index l.calls)) (x, v)
