-- Vectors of a history, and what was raised in them.
use Rattle.std.specs.Prelude.{ℕ, ◌<◌, ◌≤◌, length}
use Rattle.model_history.specs.declared.op_id.OpId.{OpId}
use Rattle.model_history.specs.History.{IsOp, session}
use Rattle.order_memory.specs.declared.growing_order.Raised.{Raised}
use Rattle.order_memory.specs.Memory.{MemoryHistory}
use Rattle.order_causal.specs.Vectors.{Counts, count, AreVectorsOf}

module _ (h : MemoryHistory) where
  -- what was raised is of operations and of a session of the history
  pub record IsRaisedIn (raised : Raised) : Type 0 where
    pub is_op : IsOp h raised.op
    pub inside : raised.end ≤ length (session h raised.op.session)
    pub exists : raised.session < length h.1

  -- one vector for each operation, of which none counts more of a session than is there
  pub record AreHeldVectors (v : Counts) : Type 0 where
    pub vectors : AreVectorsOf h v
    pub held : (o : OpId) (s : ℕ) → IsOp h o → count v o s ≤ length (session h s)
