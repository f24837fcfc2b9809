-- What follows for vectors that count the causal order.
use Rattle.std.specs.Prelude.{◌≡◌, ◌+◌, ◌<◌, ◌≤◌, length}
use Rattle.std.proofs.Common.{arith, sym, subst, ⊎_elim, lt_of_not-le}
use Rattle.model_history.specs.declared.op_id.OpId.{OpId}
use Rattle.model_history.specs.History.{IsOp, Precedes, session}
use Rattle.order_memory.specs.Steps.GrowingOrders.{AreHeldVectors}
use Rattle.order_memory.specs.Memory.{MemoryHistory}
use Rattle.order_memory.proofs.MemoryLaws.{write-of_history}
use Rattle.order_causal.specs.Orders.{op}
use Rattle.order_causal.proofs.PathsLaws.{leads-within}
use Rattle.order_memory.specs.SourceOrder.{CountsSourceOrder, IsSource, IsSourceEdge, SourceOrder}
use Rattle.order_causal.specs.Vectors.{Counts, count}

module _ (h : MemoryHistory) where
  edge-of_history : (a b : OpId) → IsSourceEdge h a b → IsOp h a
  edge-of_history a b edge = ⊎_elim
      (λ (before : Precedes a b × IsOp h b).
      let here : b.index < length (session h a.session) = rw before.0.0 before.1 in
      let order = before.0.1 in
      omega arith)
      (λ (source : IsSource h a b). write-of_history h a source.0.0 source.0.1 source.0.2)
      edge

  -- what comes before an operation by program order and sources is of the history
  pub SourceOrder-of_history : (a b : OpId) → SourceOrder h a b → IsOp h a
  SourceOrder-of_history = leads-within (IsSourceEdge h) (λ a b. IsOp h a) edge-of_history (λ a b c before after. before)

  -- vectors of that order count operations of the history alone
  pub held-by_sources : (v : Counts) → CountsSourceOrder h v → AreHeldVectors h v
  held-by_sources v order = record {
    vectors = order.vectors;
    held = λ o s is_op. let less : count v o s < length (session h s) + 1 = lt_of_not-le (λ (more : length (session h s) + 1 ≤ count v o s).
        let a = op s (length (session h s)) in
        let here : IsOp h a = ⊎_elim
        (λ (same : a ≡ o). subst (λ (p : OpId). IsOp h p) (sym same) is_op)
        (λ (before : SourceOrder h a o). SourceOrder-of_history a o before)
        ((order.counted o a is_op).0 (omega arith)) in
        omega arith) in omega arith;
  }
