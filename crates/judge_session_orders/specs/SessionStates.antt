-- An order of the past of an operation, while it is made from its end.
use Rattle.std.specs.Prelude.{◌≡◌, ℕ, Bool, true, false, IsTrue, List}
use Rattle.model_history.specs.declared.op_id.OpId.{OpId}
use Rattle.order_causal.specs.Orders.{program_past}
use Rattle.order_memory.specs.Memory.{MemoryHistory, initial, Writes, Reads}
use Rattle.judge_session_orders.specs.Backward.{IsLeft, IsAcyclic, IsBackward}
use Rattle.judge_session_orders.specs.BackwardOrder.{IsBackwardOrder, IsStartKept, HasStartOverwrittenBefore}

-- ops is placed; start says whether the session of o read an initial value while a write of the variable was left
pub record IsSessionState (h : MemoryHistory) (o : OpId) (left : ℕ → ℕ) (ops : List OpId) (start : Bool) : Type 0 where
  pub backward : IsBackward h o left
  pub order : IsBackwardOrder h o left ops
  pub kept : start ≡ false → IsStartKept h o left ops
  pub found : start ≡ true → IsAcyclic h o → HasStartOverwrittenBefore h o

-- a is such a read: it is o or before o in program order, and a write of its variable is left
abbrev pub OverwritesStart : MemoryHistory → OpId → (ℕ → ℕ) → OpId → Type 0
OverwritesStart h o left a =
    (b : OpId) × (x v : ℕ) × IsTrue (program_past o a) × Reads h a x (initial h x) × Writes h b x v × IsLeft left b
