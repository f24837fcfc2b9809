use Rattle.std.specs.Prelude.{filter}
use Rattle.order_causal.specs.Orders.{past}
use Rattle.cert_check.proofs.ConvergentLaws.{cut_is_linearization}
use Rattle.cert_check.proofs.laws.causal_convergence_is_causally_consistent.Goals as goal

pub returns : goal.returns
returns g c = λ h (co, arb, causal, whole, explained).
    (co, causal, λ o is_op. (filter (past co o) arb, cut_is_linearization h co causal arb whole o is_op, explained o is_op))
