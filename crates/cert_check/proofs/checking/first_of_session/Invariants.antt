use Rattle.std.proofs.Common.{◌≡◌, ℕ, ◌<◌}
use Rattle.std.specs.Prelude.{Some}
use Rattle.order_causal.specs.Orders.{op}
use Rattle.cert_check.specs.declared.certificate.Certificate.{Certificate}
use Rattle.cert_check.specs.Certificates.{IsExplainedPiece}
use Rattle.cert_check.proofs.checking.first_of_session.Given as goal

-- the checker is of the same file, and the pieces so far explain their operations
abbrev pub invariant-loop-index : goal.invariant-loop-index
invariant-loop-index g l =
    (l.checker ≡ l.fn.checker)
    × ((c : Certificate) → l.checker.2 ≡ Some c → (i : ℕ) → i < l.index → IsExplainedPiece g.O.SeqObject.answer l.checker.0 c (op l.session i))
