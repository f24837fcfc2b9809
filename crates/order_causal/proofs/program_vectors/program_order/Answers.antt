use Rattle.std.proofs.Common.{◌≡◌, arith, length, refl, Ok}
use Rattle.order_causal.specs.ProgramOrder.{IsOwnVector}
use Rattle.order_causal.proofs.GatheredLaws.{made-each, made-push, made-shape, made-vectors}
use Rattle.order_causal.proofs.program_vectors.program_order.Goals as goal

pub loop-session-init : goal.loop-session-init
loop-session-init g c = rw c.new-vectors.ensures (record { sessions = refl; each = λ s below. absurd (omega arith) })

pub loop-session-preserved : goal.loop-session-preserved
loop-session-preserved g c =
    rw c.in_ok-push_rows.ensures.ok
    (made-push _ c.loop-session.session c.loop-session.vectors c.in_ok-own_vectors.field-0 c.loop-session.invariant c.in_ok-own_vectors.ensures)

pub returns-clause-exact : goal.returns-clause-exact
returns-clause-exact g c =
    let ended : c.loop-session.session ≡ length c.args.h.now.1 = let all = c.sessions-session-end.ensures.count in omega arith in
    made-each c.args.h.now (IsOwnVector (length c.args.h.now.1)) _ c.loop-session.session ended (Ok c.loop-session.vectors) c.loop-session.invariant
    (λ s lists below own. own)

pub returns-clause-shape : goal.returns-clause-shape
returns-clause-shape g c =
    let own = IsOwnVector (length c.args.h.now.1) in
    let ended : c.loop-session.session ≡ length c.args.h.now.1 = let all = c.sessions-session-end.ensures.count in omega arith in
    let shape = made-shape c.args.h.now own _ c.loop-session.session ended (Ok c.loop-session.vectors) c.loop-session.invariant
    (λ s lists below own. own) in
    made-vectors {E = Unit} c.args.h.now own (λ o counts is_own. is_own.size) (Ok c.loop-session.vectors) shape (returns-clause-exact g c)
