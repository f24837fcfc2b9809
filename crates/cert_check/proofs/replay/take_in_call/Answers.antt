use Rattle.cert_check.proofs.ConsideredCalls.{known_answered}
use Rattle.std.proofs.Common.{ap, refl, sym, subst, ◌∙◌}
use Rattle.std.specs.Prelude.{is_some}
use Rattle.model_history.specs.History.{calls}
use Rattle.cert_check.proofs.ReplaySteps.{calls_push, unknown_return}
use Rattle.cert_check.proofs.replay.take_in_call.Goals as goal

pub returns-in-Some-clause-state : goal.returns-in-Some-clause-state
returns-in-Some-clause-state g c = λ taken stands.
    let one = calls_push c.args.h.now taken c.args.next c.call.result c.call.ensures in
    let took = c.in_ok-answer.ensures.takes_in c.args.h.now.0 (calls c.args.h.now taken) stands in
    subst (g.O.SeqObject.stands c.apply.new.self c.args.h.now.0) (sym one) took

pub returns-in-None-clause-state : goal.returns-in-None-clause-state
returns-in-None-clause-state g c = λ taken stands.
    let one = calls_push c.args.h.now taken c.args.next c.call.result c.call.ensures in
    let took = c.in_ok-answer.ensures.takes_in c.args.h.now.0 (calls c.args.h.now taken) stands in
    subst (g.O.SeqObject.stands c.apply.new.self c.args.h.now.0) (sym one) took

pub returns-in-None-clause-answer : goal.returns-in-None-clause-answer
returns-in-None-clause-answer g c = λ cs stands. (
  (λ _ call r known. absurd (unknown_return c.args.h.now c.args.next c.ret.result c.ret.ensures (ap is_some c.in-None.is) c.args.next refl call r known)),
  λ _. refl,
)

pub returns-in-Some-clause-answer : goal.returns-in-Some-clause-answer
returns-in-Some-clause-answer g c = λ cs stands.
    let equal = g.met.O.SeqObject.equal_rets c.in-Some.known c.in_ok-answer.answer in
    known_answered g.O.SeqObject.answer c.args.h.now c.args.next c.call.result c.in-Some.known c.in_ok-answer.answer c.call.ensures c.in-Some.ensures cs
    (c.in_ok-answer.ensures.answers c.args.h.now.0 cs stands)
    c.eq.result ((λ t. equal.0 (sym c.eq.ensures ∙ t)), λ same. c.eq.ensures ∙ equal.1 same)
