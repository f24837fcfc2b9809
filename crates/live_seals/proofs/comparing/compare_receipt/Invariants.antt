use Rattle.std.proofs.Common.{ℕ, ◌<◌}
use Rattle.std.specs.Prelude.{slice_get}
use Rattle.live_seals.specs.Steps.Comparing.{ReturnAgrees}
use Rattle.live_seals.proofs.comparing.compare_receipt.Given as goal

abbrev pub invariant-loop-i : goal.invariant-loop-i
invariant-loop-i g l = (i : ℕ) → i < l.i → ReturnAgrees l.lane.returns i (slice_get l.receipt.operations i)
