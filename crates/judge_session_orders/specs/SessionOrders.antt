-- Orders of the pasts of the last operations of sessions, as lists.
use Rattle.std.specs.Prelude.{◌≡◌, ℕ, ◌+◌, ◌-◌, ◌<◌, IsTrue, List, length, take}
use Rattle.model_objects.specs.declared.register.RegisterCall.TheVariants.{Read}
use Rattle.model_objects.specs.declared.register.RegisterRet.TheVariants.{Value}
use Rattle.model_history.specs.declared.op_id.OpId.{OpId}
use Rattle.model_history.specs.History.{calls, session}
use Rattle.order_causal.specs.Orders.{op, program_past, StandsAt}
use Rattle.order_memory.specs.HappenedBeforePatterns.{HasHBCycle, HasStartOverwrittenInHB}
use Rattle.order_memory.specs.Memory.{MemoryHistory, memory_answer, Reads}
use Rattle.order_memory.specs.Relations.{CO, IsPast}
use Rattle.judge_session_orders.specs.declared.ordering.SessionOrder.{SessionOrder}
use Rattle.judge_session_orders.specs.declared.ordering.SessionOrder.TheVariants.{Explained, StartOverwritten, Cyclic}

-- ops has the past of o, each operation once and in the causal order, and answers each known read that is o or before o in program
-- order what it returned
pub record IsOrderOfPast (h : MemoryHistory) (o : OpId) (ops : List OpId) : Type 0 where
  pub each : (a : OpId) → IsPast h o a → (k : ℕ) × StandsAt ops k a
  pub no_other : (k : ℕ) (a : OpId) → StandsAt ops k a → IsPast h o a
  pub once : (j k : ℕ) (a : OpId) → StandsAt ops j a → StandsAt ops k a → j ≡ k
  pub ordered : (j k : ℕ) (a b : OpId) → StandsAt ops j a → StandsAt ops k b → CO h a b → j < k
  pub answers : (k : ℕ) (r : OpId) (x v : ℕ) → StandsAt ops k r → IsTrue (program_past o r) → Reads h r x v
      → Value v ≡ memory_answer h.0 (calls h (take k ops)) (record { key = x; call = Read })

-- the last operation of the session s, if it has one, has such an order
abbrev pub IsOrderedSession : MemoryHistory → ℕ → Type 0
IsOrderedSession h s = (i : ℕ) → length (session h s) ≡ i + 1 → (ops : List OpId) × IsOrderOfPast h (op s i) ops

-- the last operation of the session s, where it has one
abbrev pub last_op : MemoryHistory → ℕ → OpId
last_op h s = op s (length (session h s) - 1)

-- what an outcome says of one session
abbrev pub IsOutcome : MemoryHistory → ℕ → SessionOrder → Type 0
IsOutcome h own Explained = IsOrderedSession h own
IsOutcome h own StartOverwritten = HasStartOverwrittenInHB h
IsOutcome h own Cyclic = HasHBCycle h

-- what it says of all sessions
abbrev pub AreOrdered : MemoryHistory → SessionOrder → Type 0
AreOrdered h Explained = (s : ℕ) → s < length h.1 → IsOrderedSession h s
AreOrdered h StartOverwritten = HasStartOverwrittenInHB h
AreOrdered h Cyclic = HasHBCycle h
