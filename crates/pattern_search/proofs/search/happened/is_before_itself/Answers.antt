use Rattle.std.proofs.Common.{lt-ltb, ltb-true, subst, sym, arith}
use Rattle.model_history.specs.declared.op_id.OpId.{OpId}
use Rattle.order_memory.specs.Steps.Indexed.{IsSourcePast}
use Rattle.pattern_search.proofs.HappenedReads.{happened-itself, itself-happened}
use Rattle.pattern_search.proofs.search.happened.is_before_itself.Goals as goal

pub returns-then-has_in_past : goal.returns-then-has_in_past
returns-then-has_in_past c =
    let h = c.args.order.now in
    let relation = c.args.relation.now in
    let past : IsSourcePast h relation.0 c.args.op =
    subst (λ (x : OpId). IsSourcePast h x c.args.op) c.op.ensures (c.has_in_past.ensures.0 c.if-has_in_past.true) in (
      (λ yes.
          let below = ltb-true c.place.result c.count.result yes in
          let is = rw c.session_place.ensures at c.count.ensures in
          let index = c.place.ensures in
          itself-happened h relation c.requires.relation c.requires.distinct c.args.op past (omega arith)),
      (λ before.
          let counted = (happened-itself h relation c.requires.relation c.requires.distinct c.args.op before).1 in
          let is = rw c.session_place.ensures at c.count.ensures in
          let index = c.place.ensures in
          lt-ltb c.place.result c.count.result (omega arith)),
    )

pub returns-else-has_in_past : goal.returns-else-has_in_past
returns-else-has_in_past c =
    let h = c.args.order.now in
    let relation = c.args.relation.now in (
      (λ yes. let no = c.if-has_in_past.false in absurd cc),
      (λ before.
          let past = (happened-itself h relation c.requires.relation c.requires.distinct c.args.op before).0 in
          c.has_in_past.ensures.1 (subst (λ (x : OpId). IsSourcePast h x c.args.op) (sym c.op.ensures) past)),
    )
