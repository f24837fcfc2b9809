use Rattle.std.proofs.Common.{◌≡◌, arith, length, refl, Ok}
use Rattle.cert_make.specs.Advice.{IsToldVector}
use Rattle.order_causal.proofs.GatheredLaws.{made-each, made-push, made-shape, made-vectors}
use Rattle.cert_make.proofs.heard.reported_vectors.Goals as goal

pub loop-session-init : goal.loop-session-init
loop-session-init g c = rw c.new-vectors.ensures (record { sessions = refl; each = λ s below. absurd (omega arith) })

pub vectors_of-requires-clause-few : goal.vectors_of-requires-clause-few
vectors_of-requires-clause-few g c = λ _ _. let count = c.sessions-session-end.ensures.count in let few = c.sessions-session-end.ensures.few in omega arith

pub vectors_of-requires-clause-exists : goal.vectors_of-requires-clause-exists
vectors_of-requires-clause-exists g c = λ _ _. let count = c.sessions-session-end.ensures.count in let below = c.loop-session-test.true in omega arith

pub loop-session-preserved : goal.loop-session-preserved
loop-session-preserved g c =
    rw c.in_ok-push_rows.ensures.ok
    (made-push _ c.loop-session.session c.loop-session.vectors c.in_ok-vectors_of.field-0 c.loop-session.invariant c.in_ok-vectors_of.ensures)

pub returns-clause-exact : goal.returns-clause-exact
returns-clause-exact g c =
    let ended : c.loop-session.session ≡ length c.args.h.now.1 = let all = c.sessions-session-end.ensures.count in omega arith in
    made-each c.args.h.now (IsToldVector c.args.h.now c.args.advice.now) _ c.loop-session.session ended (Ok c.loop-session.vectors) c.loop-session.invariant
    (λ s lists below own. own)

pub returns-clause-shape : goal.returns-clause-shape
returns-clause-shape g c =
    let ended : c.loop-session.session ≡ length c.args.h.now.1 = let all = c.sessions-session-end.ensures.count in omega arith in
    let holds = IsToldVector c.args.h.now c.args.advice.now in
    let shape = made-shape c.args.h.now holds _ c.loop-session.session ended (Ok c.loop-session.vectors) c.loop-session.invariant
    (λ s lists below own. own) in
    made-vectors {E = Unit} c.args.h.now holds (λ o counts reported. reported.size) (Ok c.loop-session.vectors) shape (returns-clause-exact g c)
