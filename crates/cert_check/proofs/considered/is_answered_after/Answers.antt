use Rattle.cert_check.proofs.ConsideredCalls.{known_answered}
use Rattle.std.proofs.Common.{refl, ap, sym, ◌∙◌}
use Rattle.std.specs.Prelude.{is_some}
use Rattle.cert_check.proofs.ReplaySteps.{unknown_return}
use Rattle.cert_check.proofs.considered.is_answered_after.Goals as goal

pub returns-in_default : goal.returns-in_default
returns-in_default g c = (
  (λ _ call r known. absurd (unknown_return c.args.h.now c.args.op c.ret.result c.ret.ensures (ap is_some c.in_default.is) c.args.op refl call r known)),
  λ _. refl,
)

pub returns : goal.returns
returns g c =
    let h = c.args.h.now in
    let equal = g.met.O.SeqObject.equal_rets c.in-Some.known c.in_ok-answer.answer in
    known_answered g.O.SeqObject.answer h c.args.op c.call-asked.result c.in-Some.known c.in_ok-answer.answer c.call-asked.ensures c.in-Some.ensures c.args.calls.now
    (c.in_ok-answer.ensures.answers c.in_ok-start.start c.args.calls.now c.in_ok-object.ensures ∙ c.in_ok-start.ensures.alike c.args.calls.now
    ∙ ap (λ start. g.O.SeqObject.answer start c.args.calls.now c.call-asked.result) c.start.ensures.start)
    c.eq.result ((λ t. equal.0 (sym c.eq.ensures ∙ t)), λ same. c.eq.ensures ∙ equal.1 same)

pub replay-requires-after_bounds : goal.replay-requires-after_bounds
replay-requires-after_bounds g c = λ _ _. c.in_ok-start.ensures.start
