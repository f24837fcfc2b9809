use Rattle.std.proofs.Common.{◌≡◌, ◌-◌, ◌∙◌, ap, arith, sym}
use Rattle.std.proofs.lemmas.List.{get_or_read}
use Rattle.order_causal.specs.Orders.{op}
use Rattle.order_memory.specs.declared.growing_order.Cause.TheVariants.{Through}
use Rattle.order_memory.specs.Steps.GrowthSteps.{cause_behind}
use Rattle.order_memory.proofs.RaiseLists.{behind-first, behind-later}
use Rattle.order_memory.proofs.RaisesMade.{raised-next, raised-end}
use Rattle.order_memory.proofs.growing_order.GrowingOrder.raise_up_to.Goals as goal
use Rattle.order_memory.proofs.growing_order.GrowingOrder.raise_up_to.Goals.{then-end-index, else-end-index}

pub loop-end-preserved : goal.loop-end-preserved
loop-end-preserved c =
    let before = c.loop-end.invariant in
    let below = c.loop-end-test.true in
    let sessions = before.growing.sessions in
    let exists = c.requires.session in
    let at = get_or_read c.loop-end.self.past.items _ _ (omega arith) c.index.ensures 0 in
    let most = before.growing.past c.args.session in
    let one = rw (c.if-not-branch.false, c.at-op.ensures) at c.in_ok-raise.ensures in
    let from = before.from in
    let first = op c.args.session c.args.index in
    let named : cause_behind c.args.cause first (c.loop-end.end - c.args.index) ≡ c.if-end-index.cause =
    elim c.if-end-index.branch [
      | then-end-index w ↦ let here = w.if-end-index.true in behind-first c.args.cause first (c.loop-end.end - c.args.index) (omega arith) ∙ sym w.cause-is
      | else-end-index w ↦ let apart = w.if-end-index.false in behind-later c.args.cause first (c.loop-end.end - c.args.index) (omega arith) ∙ ap Through (sym c.at-first.ensures) ∙ sym w.cause-is
    ] in
    raised-next c.args.h.now c.args.self.now c.loop-end.self c.raise.new.self c.args.session c.args.index c.loop-end.end c.args.other c.args.number c.args.cause
    c.if-end-index.cause before (omega arith) (omega arith) c.requires.other named one

pub returns-then-not-branch-clause-stopped : goal.returns-then-not-branch-clause-stopped
returns-then-not-branch-clause-stopped c = λ _.
    let kept = rw (c.if-not-branch.true, c.at-op.ensures) at c.in_ok-raise.ensures in
    let enough = kept.1 in
    let same = raised-end c.args.h.now c.args.self.now c.loop-end.self c.args.session c.args.index c.loop-end.end c.args.other c.args.number c.args.cause c.loop-end.invariant in
    omega arith
