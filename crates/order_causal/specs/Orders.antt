-- Sets, orders and lists of operations, as Bouajjani, Enea, Guerraoui and Hamza use them ("On Verifying Causal
-- Consistency", POPL 2017, sections 2 and 3).
use Rattle.std.specs.Prelude.{◌≡◌, ◌⊎◌, ℕ, ◌<◌, ◌==◌, ◌&&◌, ◌||◌, Bool, IsTrue, List, Some, slice_get, nat_le, ◌+◌}
use Rattle.model_history.specs.declared.op_id.OpId.{OpId}

-- the operation with this index of this session
abbrev pub op : ℕ → ℕ → OpId
op s i = record { session = s; index = i }

-- the order of operations: by session, then by index
abbrev pub IsEarlier : OpId → OpId → Type 0
IsEarlier a b = (a.session < b.session) ⊎ ((a.session ≡ b.session) × (a.index < b.index))

-- a set of operations, as a test
abbrev pub Ops : Type 0
Ops = OpId → Bool

-- an order: whether one operation comes before another
abbrev pub Order : Type 0
Order = OpId → OpId → Bool

-- the operation o alone
abbrev pub only : OpId → Ops
only o a = (a.session == o.session) && (a.index == o.index)

-- o and what is before it in program order: its POPast (section 3)
abbrev pub program_past : OpId → Ops
program_past o a = (a.session == o.session) && nat_le a.index o.index

-- o and what is before it in the order co: its CausalPast (section 3)
abbrev pub past : Order → OpId → Ops
past co o a = only o a || co a o

-- the operation o stands at the place k of a list
abbrev pub StandsAt : List OpId → ℕ → OpId → Type 0
StandsAt ops k o = slice_get ops k ≡ Some o

-- a path in a relation: it joins each operation to the next
abbrev pub IsPath : (OpId → OpId → Type 0) → List OpId → Type 0
IsPath related path = (k : ℕ) (a b : OpId) → StandsAt path k a → StandsAt path (k + 1) b → related a b

-- some path of at least one step leads from a to b
abbrev pub Leads : (OpId → OpId → Type 0) → OpId → OpId → Type 0
Leads related a b =
    (path : List OpId) × (n : ℕ) × IsPath related path × StandsAt path 0 a × StandsAt path (n + 1) b

-- a list of the operations of a set, each once and no other, in which each stands before those that it is before in co
pub record IsLinearization (set : Ops) (co : Order) (ops : List OpId) : Type 0 where
  pub each : (a : OpId) → IsTrue (set a) → (k : ℕ) × StandsAt ops k a
  pub no_other : (k : ℕ) (a : OpId) → StandsAt ops k a → IsTrue (set a)
  pub once : (j k : ℕ) (a : OpId) → StandsAt ops j a → StandsAt ops k a → j ≡ k
  pub ordered : (j k : ℕ) (a b : OpId) → StandsAt ops j a → StandsAt ops k b → IsTrue (co a b) → j < k
