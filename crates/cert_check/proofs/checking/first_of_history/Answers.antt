use Rattle.std.proofs.Common.{◌≡◌, length, ap, arith, refl, subst, sym, ◌∙◌}
use Rattle.std.specs.Prelude.{Some}
use Rattle.order_causal.proofs.OrdersLaws.{session-of_history}
use Rattle.cert_check.specs.Certificates.{CaseRecord, IsExplainedPiece}
use Rattle.cert_check.specs.Steps.Firsts.{IsFirstOfSession}
use Rattle.cert_check.proofs.Firsts.{explained_more}
use Rattle.cert_check.proofs.checking.first_of_history.Goals as goal

pub returns : goal.returns
returns g c = λ certificate is o is_op.
    let inside = session-of_history c.args.checker.now.0 o is_op in
    let count = c.sessions-session-end.ensures.count in
    let many : length c.history.result.now.1 ≡ length c.args.checker.now.0.1 = ap (λ h. length h.1) c.history.ensures in
    let all = c.loop-session-test.false in
    c.loop-session.invariant.1 certificate is o.session o.index (omega arith) is_op

pub loop-session-init : goal.loop-session-init
loop-session-init g c = (refl, λ certificate is s i below is_op. absurd (omega arith))

pub loop-session-preserved : goal.loop-session-preserved
loop-session-preserved g c = (
  c.first_of_session.ensures.same ∙ c.loop-session.invariant.0,
  λ certificate is. explained_more c.args.checker.now.0 (IsExplainedPiece g.O.SeqObject.answer c.args.checker.now.0 certificate) c.loop-session.session c.in_ok-found.found
      (sym c.is_some.ensures ∙ c.if-is_some.false)
      (subst (λ (file : CaseRecord g.row.O-Start.Denot g.row.O-Call.Denot g.row.O-Ret.Denot). file.2 ≡ Some certificate
      → IsFirstOfSession file.0 (IsExplainedPiece g.O.SeqObject.answer file.0 certificate) c.loop-session.session c.in_ok-found.found)
      c.loop-session.invariant.0 (c.in_ok-found.ensures.first certificate) is)
      (c.loop-session.invariant.1 certificate is),
)
