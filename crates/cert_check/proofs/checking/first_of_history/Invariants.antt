use Rattle.std.proofs.Common.{◌≡◌, ℕ, ◌<◌}
use Rattle.std.specs.Prelude.{Some}
use Rattle.model_history.specs.History.{IsOp}
use Rattle.order_causal.specs.Orders.{op}
use Rattle.cert_check.specs.declared.certificate.Certificate.{Certificate}
use Rattle.cert_check.specs.Certificates.{IsExplainedPiece}
use Rattle.cert_check.proofs.checking.first_of_history.Given as goal

-- the checker is of the same file, and the pieces of the sessions so far explain their operations
abbrev pub invariant-loop-session : goal.invariant-loop-session
invariant-loop-session g l =
    (l.checker ≡ l.fn.checker)
    × ((c : Certificate) → l.fn.checker.2 ≡ Some c → (s i : ℕ) → s < l.session → IsOp l.fn.checker.0 (op s i) → IsExplainedPiece g.O.SeqObject.answer l.fn.checker.0 c (op s i))
