-- The order that a memory history has by the first write of each value that was read, and when it has none.
use Rattle.std.specs.Prelude.{◌≡◌, ◌≢◌, ◌⊎◌, ◌↔◌, ℕ, List, length, Option, MatchOption, Some, slice_get}
use Rattle.model_history.specs.declared.op_id.OpId.{OpId}
use Rattle.model_history.specs.History.{IsOp, Precedes}
use Rattle.order_memory.specs.Memory.{MemoryHistory, initial, Writes, Reads}
use Rattle.order_causal.specs.Orders.{op, IsEarlier, Leads}
use Rattle.order_memory.specs.Relations.{ReadsFrom, CO, IsPast}
use Rattle.order_causal.specs.Vectors.{Counts, AreVectorsOf, IsCounted}

module _ (h : MemoryHistory) where
  -- CO is cyclic
  abbrev pub IsCyclic : Type 0
  IsCyclic = (a : OpId) × CO h a a

  -- a known read returned a value that is not the initial one and that nobody writes (a thin-air read)
  abbrev pub LacksSource : Type 0
  LacksSource = (r : OpId) × (x v : ℕ) × Reads h r x v × (v ≢ initial h x) × ((w : OpId) → ¬ Writes h w x v)

  -- the source of a read: the first of the writes that it may have read from
  abbrev pub IsSource : OpId → OpId → Type 0
  IsSource w r = ReadsFrom h w r × ((u : OpId) → ReadsFrom h u r → ¬ IsEarlier u w)

  -- an edge: program order, or from a source to its read
  abbrev pub IsSourceEdge : OpId → OpId → Type 0
  IsSourceEdge a b = (Precedes a b × IsOp h b) ⊎ IsSource a b

  -- the transitive closure of program order and sources; where values are distinct, it is CO
  abbrev pub SourceOrder : OpId → OpId → Type 0
  SourceOrder a b = Leads IsSourceEdge a b

  -- e is the source of r, or none where r is not known to have read a value that is not the initial one
  abbrev pub IsSourceOf : OpId → Option OpId → Type 0
  IsSourceOf r e = MatchOption e ((x v : ℕ) → Reads h r x v → v ≡ initial h x) (λ w. IsSource w r)

  -- the sources of the first n operations of the session s
  pub record ListsSourcesBelow (s n : ℕ) (es : List (Option OpId)) : Type 0 where
    pub count : length es ≡ n
    pub each : (i : ℕ) (e : Option OpId) → slice_get es i ≡ Some e → IsSourceOf (op s i) e

  -- vectors count, for each operation, its past in CO
  abbrev pub CountsCO : Counts → Type 0
  CountsCO v = (o a : OpId) → IsOp h o → IsCounted v o a ↔ IsPast h o a

  -- each known read of a value that is not the initial one has a source, the order is no cycle, and vectors count, for
  -- each operation, what is before it in the order and the operation itself
  pub record CountsSourceOrder (v : Counts) : Type 0 where
    pub vectors : AreVectorsOf h v
    pub sources : ¬ LacksSource
    pub acyclic : (a : OpId) → ¬ SourceOrder a a
    pub counted : (o a : OpId) → IsOp h o → IsCounted v o a ↔ ((a ≡ o) ⊎ SourceOrder a o)
