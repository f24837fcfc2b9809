use Rattle.std.proofs.Common.{◌≡◌, ℕ, arith, refl, sym, subst}
use Rattle.model_history.specs.declared.op_id.OpId.{OpId}
use Rattle.order_causal.specs.Orders.{op}
use Rattle.order_causal.specs.Vectors.{IsCounted}
use Rattle.order_causal.proofs.OrdersLaws.{same_op}
use Rattle.pattern_search.specs.Steps.Routes.{IsCountedBefore}
use Rattle.pattern_search.proofs.search.reads.is_counted_before.Goals as goal

pub returns-in-Some : goal.returns-in-Some
returns-in-Some c =
    let v = c.args.vectors.now in
    let o = c.args.op in
    let a = c.args.earlier in
    let b = c.in-Some.before in
    let is : b ≡ op o.session b.index = same_op b (op o.session b.index) c.in-Some.ensures.0 refl in
    let next = c.in-Some.ensures.1 in (
      (λ yes. (b.index, sym next, subst (λ (p : OpId). IsCounted v p a) is (c.has_counted.ensures.0 yes))),
      λ (counted : IsCountedBefore v o a).
          let here = counted.1 in
          let same : counted.0 ≡ b.index = omega arith in
          let there : IsCounted v (op o.session b.index) a = subst (λ (j : ℕ). IsCounted v (op o.session j) a) same counted.2 in
          c.has_counted.ensures.1 (subst (λ (p : OpId). IsCounted v p a) (sym is) there),
    )

pub returns-in-None : goal.returns-in-None
returns-in-None c = (
  (λ no_one. absurd cc),
  λ (counted : IsCountedBefore c.args.vectors.now c.args.op c.args.earlier).
      let first = c.in-None.ensures in
      let next = counted.1 in
      absurd (omega arith),
)
