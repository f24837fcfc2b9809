use Rattle.std.proofs.Common.{◌≡◌, ◌⊎◌, ℕ, ◌+◌, ◌≤◌, Bool, length}
use Rattle.std.specs.Prelude.{Some, slice_get}
use Rattle.model_history.specs.declared.op_id.OpId.{OpId}
use Rattle.order_causal.specs.Orders.{StandsAt}
use Rattle.app_explanations.specs.BrokenGuarantees.{StaysAs}
use Rattle.app_explanations.proofs.broken.steps_of.Given as goal

-- the steps so far
abbrev pub invariant-loop-i : goal.invariant-loop-i
invariant-loop-i g l = record {
  many : length l.steps.items + 1 ≡ l.i;
  within : (l.i ≡ 1) ⊎ (l.i ≤ length l.path);
  each : (k : ℕ) (a b : OpId) (stays : Bool) → StandsAt l.path k a → StandsAt l.path (k + 1) b → slice_get l.steps.items k ≡ Some stays
      → StaysAs l.clients a b stays;
}
