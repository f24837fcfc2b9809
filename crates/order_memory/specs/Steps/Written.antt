-- Lists of the writes of a memory history.
use Rattle.std.specs.Prelude.{◌≡◌, ℕ, ◌<◌, ◌≤◌, List, Some, slice_get, Contains, IsSortedByKey}
use Rattle.std.specs.Ordering.{nat_cmp, ordering_then}
use Rattle.std.specs.declared.cmp.Ordering.{Ordering}
use Rattle.model_history.specs.declared.op_id.OpId.{OpId}
use Rattle.order_memory.specs.Steps.Listed.{ListsBefore}
use Rattle.order_causal.specs.Orders.{op, IsEarlier}
use Rattle.order_memory.specs.declared.writes.Write.{Write}
use Rattle.order_memory.specs.Memory.{MemoryHistory, Writes}

-- a list names the writes of h, and nothing else
pub record ListsWrites (h : MemoryHistory) (writes : List Write) : Type 0 where
  pub each : (a : OpId) (x v : ℕ) → Writes h a x v → Contains writes (record { op = a; key = x; value = v })
  pub no_other : (w : Write) → Contains writes w → Writes h w.op w.key w.value

-- a list names the writes of h that are earlier than an operation, and nothing but writes
abbrev pub ListsWritesBefore : MemoryHistory → OpId → List Write → Type 0
ListsWritesBefore h = ListsBefore (λ w. w.op) (λ w. Writes h w.op w.key w.value)

-- the order by variable, then by value
abbrev pub by_variable : ℕ × ℕ → ℕ × ℕ → Ordering
by_variable a b = ordering_then (nat_cmp a.0 b.0) (nat_cmp a.1 b.1)

-- the writes rise by variable and value, where equal ones are neighbours
abbrev pub IsSorted : List Write → Type 0
IsSorted writes = IsSortedByKey (λ w. (w.key, w.value)) by_variable writes

-- the writes of one value to one variable rise by operation
abbrev pub AreInOrder : List Write → Type 0
AreInOrder writes = (i j : ℕ) (a b : Write) → i < j → slice_get writes i ≡ Some a → slice_get writes j ≡ Some b
    → a.key ≡ b.key → a.value ≡ b.value → ¬ IsEarlier b.op a.op

-- o is the first of the operations that write the value v to the variable x
pub record IsLeastWrite (writes : List Write) (x v : ℕ) (o : OpId) : Type 0 where
  pub writes_it : Contains writes (record { op = o; key = x; value = v })
  pub least : (w : Write) → Contains writes w → w.key ≡ x → w.value ≡ v → ¬ IsEarlier w.op o

-- none of them writes it
abbrev pub LacksWrite : List Write → ℕ → ℕ → Type 0
LacksWrite writes x v = (w : Write) → Contains writes w → w.key ≡ x → w.value ≡ v → ⊥

-- if two entries write one value to one variable, they are of one operation
abbrev pub IsOne : Write → Write → Type 0
IsOne a b = a.key ≡ b.key → a.value ≡ b.value → a.op ≡ b.op

-- no two operations among the writes write one value to one variable
abbrev pub AreOnce : List Write → Type 0
AreOnce writes = (a b : Write) → Contains writes a → Contains writes b → IsOne a b

-- the order of operations, by session, then by index
abbrev pub by_op : OpId → OpId → Ordering
by_op a b = ordering_then (nat_cmp a.session b.session) (nat_cmp a.index b.index)

-- the order by variable, then by operation
abbrev pub by_place : ℕ × OpId → ℕ × OpId → Ordering
by_place a b = ordering_then (nat_cmp a.0 b.0) (by_op a.1 b.1)

-- the writes rise by variable and operation
abbrev pub AreByVariable : List Write → Type 0
AreByVariable writes = IsSortedByKey (λ w. (w.key, w.op)) by_place writes

-- one of the writes writes the variable x, and is an operation of the session s from i on and before n
abbrev pub IsBelowWrite : List Write → ℕ → ℕ → ℕ → ℕ → Type 0
IsBelowWrite writes x s n i =
    (j u : ℕ) × (i ≤ j) × (j < n) × Contains writes (record { op = op s j; key = x; value = u })
