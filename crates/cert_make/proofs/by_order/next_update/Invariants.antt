use Rattle.std.specs.Prelude.{ℕ, ◌<◌, ◌≤◌, IsTrue}
use Rattle.order_causal.specs.Orders.{op}
use Rattle.cert_make.specs.ByOrder.{is_update}
use Rattle.cert_make.proofs.by_order.next_update.Given as goal

-- none of the operations so far is an update
abbrev pub invariant-loop-index : goal.invariant-loop-index
invariant-loop-index g l = (i : ℕ) → l.from ≤ i → i < l.index → ¬ IsTrue (is_update g.O.SeqObject.query l.h (op l.session i))
