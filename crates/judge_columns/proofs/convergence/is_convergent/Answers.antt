use Rattle.std.specs.Prelude.{ℕ, List}
use Rattle.std.proofs.Common.{refl, sym, subst}
use Rattle.order_causal.specs.Orders.{Leads}
use Rattle.judge_memory.specs.Steps.{IsListedEdge, IsOrderBy, IsStepWith}
use Rattle.judge_memory.specs.Edges.{AreFromOperations}
use Rattle.judge_columns.proofs.EdgeLists.{from-moved, moved-acyclic, moved-cyclic}
use Rattle.judge_columns.proofs.convergence.is_convergent.Goals as goal

pub order-requires-clause-from_operations : goal.order-requires-clause-from_operations
order-requires-clause-from_operations c =
    subst (λ (xs : List (ℕ × ℕ)). AreFromOperations c.args.index.now.history xs) (sym c.deref.ensures.value)
    (from-moved c.args.index.now.history c.args.edges.items c.in_ok-edges.edges.items c.in_ok-edges.ensures.same c.requires.below)

pub returns-in-Some : goal.returns-in-Some
returns-in-Some c =
    let h = c.args.index.now.history in
    let ordered = rw c.in-Some.is at c.in_ok-order.ensures in
    record {
      acyclic = λ _.
          moved-acyclic h c.args.edges.items c.in_ok-edges.edges.items c.in_ok-edges.ensures.same c.requires.reduced c.in-Some.field-0.items
          (subst (λ (xs : List (ℕ × ℕ)). IsOrderBy h xs c.in-Some.field-0.items) c.deref.ensures.value ordered);
      cyclic = λ no. absurd (no refl);
    }

pub returns : goal.returns
returns c =
    let h = c.args.index.now.history in
    let cycle = rw c.in-None.is at c.in_ok-order.ensures in
    let leads = moved-cyclic h c.args.edges.items c.in_ok-edges.edges.items c.in_ok-edges.ensures.same c.requires.reduced cycle.0
    (subst (λ (xs : List (ℕ × ℕ)). Leads (IsStepWith h (IsListedEdge h xs)) cycle.0 cycle.0) c.deref.ensures.value cycle.1) in
    record {
      acyclic = λ bad. absurd cc;
      cyclic = λ _. (cycle.0, leads);
    }
