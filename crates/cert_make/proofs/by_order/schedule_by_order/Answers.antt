use Rattle.std.proofs.Common.{◌≡◌, ◌+◌, ℕ, List, get_or, suc, ap, subst, arith, ◌∙◌}
use Rattle.cert_make.specs.ByOrder.{AreTurns, IsNamed}
use Rattle.cert_make.proofs.by_order.schedule_by_order.Goals as goal

pub loop-done-preserved : goal.loop-done-preserved
loop-done-preserved g c =
    let query = g.O.SeqObject.query in
    let n = c.loop-done.done in
    let next : suc n ≡ n + 1 = omega arith in
    let turn : AreTurns query c.args.h.now c.args.reported.now c.args.op (suc n) c.name.new.walk = (
      c.loop-done.walk,
      c.loop-done.invariant,
      record {
        asked = c.ask.new.walk;
        queries = c.in_ok-ask.ensures;
        named = subst (λ (s : ℕ). IsNamed query c.args.h.now s c.ask.new.walk c.name.new.walk)
            (c.from.ensures ∙ ap (λ (xs : List ℕ). get_or xs n 0) (rw c.place.ensures at c.order_at-order.ensures)) c.in_ok-name.ensures;
      },
    ) in
    subst (λ (m : ℕ). AreTurns query c.args.h.now c.args.reported.now c.args.op m c.name.new.walk) next turn
