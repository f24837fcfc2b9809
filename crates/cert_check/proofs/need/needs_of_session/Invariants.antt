use Rattle.std.proofs.Common.{◌≡◌, ℕ, ◌<◌, get_or, length}
use Rattle.order_causal.specs.Orders.{op}
use Rattle.cert_check.specs.declared.need.Need.TheVariants.{Everything}
use Rattle.cert_check.specs.Steps.Needs.{IsNeedOf}
use Rattle.cert_check.proofs.need.needs_of_session.Given as goal

-- the needs so far are those of their operations
abbrev pub invariant-loop-index : goal.invariant-loop-index
invariant-loop-index g l = (length l.needs.items ≡ l.index)
    × ((i : ℕ) → i < l.index → IsNeedOf l.v (op l.session i) (get_or l.needs.items i Everything))
