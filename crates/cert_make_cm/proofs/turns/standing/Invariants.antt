use Rattle.std.proofs.Common.{◌≡◌, ◌<◌, ◌≤◌, ℕ}
use Rattle.std.specs.Prelude.{◌≢◌, Some, slice_get}
use Rattle.order_memory.specs.declared.growing_order.Raise.{Raise}
use Rattle.order_memory.specs.Steps.HappenedBefores.{raises_of, vectors_of}
use Rattle.order_causal.specs.Orders.{op}
use Rattle.order_causal.specs.Vectors.{IsCounted}
use Rattle.cert_make_cm.proofs.turns.standing.Given as goal

-- the first ones neither are nor count what was raised so far
abbrev pub invariant-loop-place : goal.invariant-loop-place
invariant-loop-place l = record {
  ordered : l.first ≤ l.turns;
  unraised : (m j : ℕ) (e : Raise) → m < l.first → l.raises ≤ j → j < l.place → slice_get (raises_of l.happened) j ≡ Some e
      → (e.op ≢ op l.session m) × ¬ IsCounted (vectors_of l.happened) (op l.session m) e.op;
}
