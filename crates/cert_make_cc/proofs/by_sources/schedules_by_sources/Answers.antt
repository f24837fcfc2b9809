use Rattle.std.proofs.Common.{◌≡◌, ap, arith, length, refl, ◌∙◌, Ok}
use Rattle.order_memory.specs.Memory.{MemoryHistory}
use Rattle.cert_make_cc.specs.BySources.{IsScheduleFor}
use Rattle.order_causal.proofs.GatheredLaws.{made-each, made-push, made-shape}
use Rattle.cert_make_cc.proofs.by_sources.schedules_by_sources.Goals as goal

pub loop-session-init : goal.loop-session-init
loop-session-init c = rw c.new-schedules.ensures (record { sessions = refl; each = λ s below. absurd (omega arith) })

pub schedules_of-requires-clause-exists : goal.schedules_of-requires-clause-exists
schedules_of-requires-clause-exists c =
    let all = c.sessions-session-end.ensures.count ∙ ap (λ (h : MemoryHistory). length h.1) (c.history-2.ensures ∙ c.memory-2.ensures) in
    let below = c.loop-session-test.true in
    omega arith

pub schedules_of-requires-clause-few : goal.schedules_of-requires-clause-few
schedules_of-requires-clause-few c =
    let all = c.sessions-session-end.ensures.count ∙ ap (λ (h : MemoryHistory). length h.1) (c.history-2.ensures ∙ c.memory-2.ensures) in
    let few = c.sessions-session-end.ensures.few in
    omega arith

pub loop-session-preserved : goal.loop-session-preserved
loop-session-preserved c =
    rw c.in_ok-push_rows.ensures.ok
    (made-push _ c.loop-session.session c.loop-session.schedules c.in_ok-schedules_of.field-0 c.loop-session.invariant c.in_ok-schedules_of.ensures)

pub returns-clause-exact : goal.returns-clause-exact
returns-clause-exact c =
    let all = c.sessions-session-end.ensures.count ∙ ap (λ (h : MemoryHistory). length h.1) (c.history-2.ensures ∙ c.memory-2.ensures) in
    let ended : c.loop-session.session ≡ length c.args.order.now.1 = omega arith in
    made-each c.args.order.now (IsScheduleFor c.args.order.now c.args.vectors.now) _ c.loop-session.session ended (Ok c.loop-session.schedules)
    c.loop-session.invariant (λ s lists below own. own)

pub returns-clause-shape : goal.returns-clause-shape
returns-clause-shape c =
    let all = c.sessions-session-end.ensures.count ∙ ap (λ (h : MemoryHistory). length h.1) (c.history-2.ensures ∙ c.memory-2.ensures) in
    let ended : c.loop-session.session ≡ length c.args.order.now.1 = omega arith in
    made-shape c.args.order.now (IsScheduleFor c.args.order.now c.args.vectors.now) _ c.loop-session.session ended (Ok c.loop-session.schedules)
    c.loop-session.invariant (λ s lists below own. own)
