use Rattle.std.specs.Prelude.{◌≡◌, ◌≢◌, ◌≤◌, ◌+◌, ℕ}
use Rattle.std.proofs.Common.{arith, ap, ⊎_elim}
use Rattle.std.proofs.lemmas.Bool.{cases_eq}
use Rattle.model_history.specs.History.{many_before, number}
use Rattle.judge_memory.proofs.Numbers.{number-below}
use Rattle.judge_session_orders.proofs.lone_sources.may_lack_order.Goals as goal

pub loop-operation-init : goal.loop-operation-init
loop-operation-init c r is_op of_t below =
    let h = c.args.index.now.history in
    let same = ap (many_before h) of_t in
    let start = c.start-operation.ensures.number in
    absurd (omega arith)

pub loop-operation-preserved : goal.loop-operation-preserved
loop-operation-preserved c r is_op of_t below =
    let h = c.args.index.now.history in
    ⊎_elim
    (λ (here : number h r ≡ c.loop-operation.operation).
    c.asks.ensures (λ yes. (let no = c.if-asks.false in absurd cc)) r is_op here)
    (λ (apart : number h r ≢ c.loop-operation.operation). c.loop-operation.invariant r is_op of_t (omega arith))
    (cases_eq (number h r) c.loop-operation.operation)

pub returns : goal.returns
returns c found r is_op of_t =
    let h = c.args.index.now.history in
    let inside = number-below h r is_op in
    let same = ap (λ (t : ℕ). many_before h (t + 1)) of_t in
    let end = c.end-operation-end.ensures.number in
    let past : c.end-operation-end.result ≤ c.loop-operation.operation = grind arith in
    c.loop-operation.invariant r is_op of_t (omega arith)
