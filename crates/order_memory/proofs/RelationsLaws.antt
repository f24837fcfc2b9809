-- What follows for the causal order.
use Rattle.std.specs.Prelude.{◌<◌, length}
use Rattle.std.proofs.Common.{arith, ⊎_elim}
use Rattle.model_history.specs.declared.op_id.OpId.{OpId}
use Rattle.model_history.specs.History.{IsOp, Precedes, session}
use Rattle.order_memory.specs.Memory.{MemoryHistory}
use Rattle.order_memory.proofs.MemoryLaws.{write-of_history, read-of_history}
use Rattle.order_memory.specs.Relations.{ReadsFrom, IsEdge, CO}
use Rattle.order_causal.proofs.PathsLaws.{leads-within}

module _ (h : MemoryHistory) where
  -- the ends of an edge are operations of the history
  pub edge-of_history : (a b : OpId) → IsEdge h a b → IsOp h a × IsOp h b
  edge-of_history a b edge =
      ⊎_elim
      (λ (before : Precedes a b × IsOp h b).
      let here : b.index < length (session h a.session) = rw before.0.0 before.1 in
      let order = before.0.1 in
      (omega arith, before.1))
      (λ (read : ReadsFrom h a b). (write-of_history h a read.0 read.1 read.2, read-of_history h b read.0 read.1 read.3))
      edge

  -- what is in CO is of the history
  pub CO-of_history : (a b : OpId) → CO h a b → IsOp h a × IsOp h b
  CO-of_history = leads-within (IsEdge h) (λ a b. IsOp h a × IsOp h b) edge-of_history (λ a b c before after. (before.0, after.1))
