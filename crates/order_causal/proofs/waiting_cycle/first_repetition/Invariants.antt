use Rattle.std.proofs.Common.{◌<◌, ℕ}
use Rattle.model_history.specs.declared.op_id.OpId.{OpId}
use Rattle.order_causal.specs.Orders.{StandsAt}
use Rattle.order_causal.specs.Steps.Waiting.{AreOfOthers}
use Rattle.order_causal.proofs.waiting_cycle.first_repetition.Given as goal

-- none of the operations so far is of the session of an earlier one
abbrev pub invariant-loop-later : goal.invariant-loop-later
invariant-loop-later l = (j : ℕ) (b : OpId) → j < l.later → StandsAt l.ops j b → AreOfOthers l.ops j b.session
