use Rattle.std.proofs.Common.{◌≡◌, ◌<◌, ◌≤◌, arith, refl, subst, ⊎_elim, eq-or-lt_of_le}
use Rattle.model_history.specs.declared.op_id.OpId.{OpId}
use Rattle.order_causal.specs.Orders.{op}
use Rattle.order_memory.specs.Relations.{HB}
use Rattle.order_causal.proofs.OrdersLaws.{same_op}
use Rattle.pattern_search.proofs.HappenedReads.{itself-session}
use Rattle.pattern_search.proofs.search.happened.least_before_itself.Goals as goal

pub loop-session-preserved : goal.loop-session-preserved
loop-session-preserved c a below before =
    let s = c.loop-session.session in
    ⊎_elim
    (λ (same : a.session ≡ s).
    c.in_default.ensures a.index (subst (λ (x : OpId). HB c.args.order.now c.args.relation.now.0 x x) (same_op a (op s a.index) same refl) before))
    (λ (earlier : a.session < s). c.loop-session.invariant a earlier before)
    (let up_to : a.session ≤ s = omega arith in eq-or-lt_of_le up_to)

pub returns : goal.returns
returns c a before =
    let below = itself-session c.args.order.now c.args.relation.now c.requires.relation c.requires.distinct a before in
    let count = c.sessions-session-end.ensures in
    let ended = c.loop-session-test.false in
    c.loop-session.invariant a (omega arith) before
