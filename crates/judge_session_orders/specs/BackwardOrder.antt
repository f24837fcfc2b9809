-- The list of what is placed, while an order is made from its end.
use Rattle.std.specs.Prelude.{◌≡◌, ℕ, ◌<◌, List, IsTrue}
use Rattle.model_history.specs.declared.op_id.OpId.{OpId}
use Rattle.order_causal.specs.Orders.{program_past, StandsAt}
use Rattle.order_memory.specs.Memory.{MemoryHistory, initial, Writes, Reads}
use Rattle.order_memory.specs.Relations.{ReadsFrom, CO, AreRivalWrites, IsPast, HB}
use Rattle.judge_session_orders.specs.Backward.{IsLeft}

-- ops has what is placed of the past of o, each operation once, in the causal order, after which nothing of what is left comes; no
-- rival of a write stands between it and a read from it by the session of o
pub record IsBackwardOrder (h : MemoryHistory) (o : OpId) (left : ℕ → ℕ) (ops : List OpId) : Type 0 where
  pub each : (a : OpId) → IsPast h o a → ¬ IsLeft left a → (k : ℕ) × StandsAt ops k a
  pub no_other : (k : ℕ) (a : OpId) → StandsAt ops k a → IsPast h o a × ¬ IsLeft left a
  pub once : (j k : ℕ) (a : OpId) → StandsAt ops j a → StandsAt ops k a → j ≡ k
  pub ordered : (j k : ℕ) (a b : OpId) → StandsAt ops j a → StandsAt ops k b → CO h a b → j < k
  pub causes : (a b : OpId) → CO h a b → IsLeft left b → IsLeft left a
  pub read : (i k : ℕ) (a w r : OpId) → StandsAt ops i a → StandsAt ops k r → i < k → IsTrue (program_past o r) → ReadsFrom h w r
      → AreRivalWrites h a w → (j : ℕ) × (i < j) × StandsAt ops j w

-- where the session of o has a placed read of the initial value of a variable, each write of the variable is placed, and after it
pub record IsStartKept (h : MemoryHistory) (o : OpId) (left : ℕ → ℕ) (ops : List OpId) : Type 0 where
  pub placed : (k : ℕ) (r b : OpId) (x v : ℕ) → StandsAt ops k r → IsTrue (program_past o r) → Reads h r x (initial h x)
      → Writes h b x v → ¬ IsLeft left b
  pub after : (i k : ℕ) (r b : OpId) (x v : ℕ) → StandsAt ops k r → IsTrue (program_past o r) → Reads h r x (initial h x)
      → Writes h b x v → StandsAt ops i b → k < i

-- in HB of o a write comes before a read of the initial value of its variable, which is o or before o in program order
abbrev pub HasStartOverwrittenBefore : MemoryHistory → OpId → Type 0
HasStartOverwrittenBefore h o =
    (w r : OpId) × (x v : ℕ) × Writes h w x v × Reads h r x (initial h x) × IsTrue (program_past o r) × HB h o w r
