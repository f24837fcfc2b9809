-- What is known of a memory history: the sources of its operations, its known reads, its last writes and its order.
use Rattle.std.specs.Prelude.{◌≡◌, ◌≢◌, ◌⊎◌, ◌↔◌, ℕ, ◌+◌, ◌<◌, ◌≤◌, Bool, List, [], length, Contains, IsTrue, Option, None, Some, MatchOption, slice_get, slice_index_or, unwrap_or}
use Rattle.model_history.specs.declared.limits.TheConstants.{MAX_OPERATIONS}
use Rattle.model_history.specs.declared.op_id.OpId.{OpId}
use Rattle.model_history.specs.History.{IsOp, session}
use Rattle.order_memory.specs.declared.known_reads.KnownRead.{KnownRead}
use Rattle.order_memory.specs.declared.writes.Write.{Write}
use Rattle.order_memory.specs.Memory.{MemoryHistory, initial, Writes, Reads, IsDifferentiated}
use Rattle.order_causal.specs.Orders.{op}
use Rattle.order_memory.specs.Relations.{ReadsFrom}
use Rattle.order_memory.specs.SourceOrder.{CountsSourceOrder, IsSource, LacksSource, SourceOrder}
use Rattle.order_memory.specs.Sources.{Sources}
use Rattle.order_memory.specs.Steps.Listed.{ListsBefore}
use Rattle.order_memory.specs.Steps.Written.{AreByVariable, AreInOrder, IsSorted, ListsWrites}
use Rattle.order_causal.specs.Vectors.{Counts}

-- one more than the index of an operation, or 0
abbrev pub end_of : Option OpId → ℕ
end_of None = 0
end_of (Some o) = o.index + 1

-- the source that is listed for an operation, if any
abbrev pub listed_source : Sources → OpId → Option OpId
listed_source sources o = unwrap_or (slice_get (slice_index_or sources o.session []) o.index) None

module _ (h : MemoryHistory) where
  -- e is the source of r, or none where r reads from no write
  abbrev pub IsSourceIfAny : OpId → Option OpId → Type 0
  IsSourceIfAny r e = MatchOption e ((w : OpId) → ¬ ReadsFrom h w r) (λ w. IsSource h w r)

  -- these of the first n operations of the session s
  pub record ListsIfAnyBelow (s n : ℕ) (es : List (Option OpId)) : Type 0 where
    pub count : length es ≡ n
    pub short : n ≤ MAX_OPERATIONS
    pub each : (i : ℕ) (e : Option OpId) → slice_get es i ≡ Some e → IsSourceIfAny (op s i) e

  -- these of all operations of the first n sessions
  pub record ListsIfAnySoFar (n : ℕ) (sources : Sources) : Type 0 where
    pub sessions : length sources ≡ n
    pub each : (s : ℕ) → s < n → ListsIfAnyBelow s (length (session h s)) (slice_index_or sources s [])

  -- these of all operations
  abbrev pub ListsSourcesIfAny : Sources → Type 0
  ListsSourcesIfAny sources = ListsIfAnySoFar (length h.1) sources

  -- k is a known read, with its variable and its source
  pub record IsKnownRead (k : KnownRead) : Type 0 where
    pub value : ℕ
    pub reads : Reads h k.op k.key value
    pub source : IsSourceIfAny k.op k.source

  -- k has no source, and is a known read of a value that is not the initial one
  abbrev pub LacksItsSource : KnownRead → Type 0
  LacksItsSource k = (k.source ≡ None) × ((x v : ℕ) × Reads h k.op x v × (v ≢ initial h x))

  -- the known reads earlier than o are listed, and nothing but known reads
  abbrev pub ListsReadsBefore : OpId → List KnownRead → Type 0
  ListsReadsBefore = ListsBefore (λ k. k.op) IsKnownRead

  -- a list has an entry for each known read, and nothing else
  pub record ListsReads (reads : List KnownRead) : Type 0 where
    pub each : (r : OpId) (x v : ℕ) → Reads h r x v → (k : KnownRead) × Contains reads k × (k.op ≡ r)
    pub no_other : (k : KnownRead) → Contains reads k → IsKnownRead k

  -- w is the last write of the variable x in the session of `end`, of those before it
  pub record IsLastWriteBefore (x : ℕ) (end w : OpId) : Type 0 where
    pub session : w.session ≡ end.session
    pub before : w.index < end.index
    pub value : ℕ
    pub writes : Writes h w x value
    pub last : (i v : ℕ) → i < end.index → Writes h (op end.session i) x v → i ≤ w.index

  -- there is none
  abbrev pub HasNoWriteBefore : ℕ → OpId → Type 0
  HasNoWriteBefore x end = (i v : ℕ) → i < end.index → ¬ Writes h (op end.session i) x v

  -- a is o, an operation of the history, or comes before it in the order of program order and sources
  abbrev pub IsSourcePast : OpId → OpId → Type 0
  IsSourcePast o a = IsOp h o × ((a ≡ o) ⊎ SourceOrder h a o)

  -- w is the last write of the variable x in the session s, of those in the past of o
  pub record IsLastWriteOfPast (x s : ℕ) (o w : OpId) : Type 0 where
    pub session : w.session ≡ s
    pub past : IsSourcePast o w
    pub value : ℕ
    pub writes : Writes h w x value
    pub last : (i v : ℕ) → IsSourcePast o (op s i) → Writes h (op s i) x v → i ≤ w.index

  -- there is none
  abbrev pub HasNoWriteOfPast : ℕ → ℕ → OpId → Type 0
  HasNoWriteOfPast x s o = (i v : ℕ) → IsSourcePast o (op s i) → ¬ Writes h (op s i) x v

  -- the order of program order and sources has a cycle, or a known read has no source that it needs
  abbrev pub IsUnordered : Type 0
  IsUnordered = ((a : OpId) × SourceOrder h a a) ⊎ LacksSource h

  -- that order has no cycle, and each known read has the source that it needs
  pub record IsOrdered : Type 0 where
    pub acyclic : (a : OpId) → ¬ SourceOrder h a a
    pub sources : ¬ LacksSource h

  -- what is kept of a history beside it
  pub record IsIndex (ws vs : List Write) (es : Sources) (ks : List KnownRead) (b : Bool) (order : Option Counts) : Type 0 where
    pub writes : ListsWrites h ws
    pub sorted : IsSorted ws
    pub in_order : AreInOrder ws
    pub by_variable : ListsWrites h vs
    pub sorted_by_variable : AreByVariable vs
    pub sources : ListsSourcesIfAny es
    pub reads : ListsReads ks
    pub distinct : IsTrue b ↔ IsDifferentiated h
    pub ordered : MatchOption order IsUnordered (CountsSourceOrder h)
