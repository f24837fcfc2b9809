use Rattle.std.proofs.Common.{◌≡◌, ℕ, ◌<◌, List, [], get_or, length}
use Rattle.order_causal.specs.Orders.{op}
use Rattle.cert_check.specs.declared.need.Need.{Need}
use Rattle.cert_check.specs.declared.need.Need.TheVariants.{Everything}
use Rattle.cert_check.specs.Steps.Needs.{IsNeedOf}
use Rattle.cert_check.proofs.need.Needs.of.Given as goal

-- the needs of the sessions so far are those of their operations
abbrev pub invariant-loop-session : goal.invariant-loop-session
invariant-loop-session g l = (length l.sessions.items ≡ l.session)
    × ((s i : ℕ) → s < l.session → i < length (get_or {A = List Need} l.sessions.items s [])
    → IsNeedOf l.v (op s i) (get_or (get_or {A = List Need} l.sessions.items s []) i Everything))
