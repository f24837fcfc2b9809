-- Reads that show a fault, each with the write that it missed.
use Rattle.std.specs.Prelude.{◌≡◌, ◌⊎◌, ℕ, ◌<◌, List, Some, slice_get}
use Rattle.model_history.specs.declared.op_id.OpId.{OpId}
use Rattle.model_history.specs.History.{IsOp, number}
use Rattle.order_memory.specs.Memory.{MemoryHistory, initial, Writes, Reads}
use Rattle.order_memory.specs.Relations.{ReadsFrom, CO, AreRivalWrites}
use Rattle.order_memory.specs.SourceOrder.{IsCyclic}
use Rattle.pattern_check.specs.declared.kind.Kind.{Kind}
use Rattle.pattern_check.specs.declared.kind.Kind.TheVariants as kinds
use Rattle.pattern_check.specs.Kinds.{IsThinAirRead}
use Rattle.show_faults.specs.declared.fault.Fault.{Fault}
use Rattle.show_faults.specs.declared.fault.Fault.TheVariants.{ThinAirRead, WriteCOInitRead, WriteCORead}

-- the read, and the kind of the fault that it shows
abbrev pub read_of : Fault → OpId
read_of (ThinAirRead r) = r
read_of (WriteCOInitRead r a) = r
read_of (WriteCORead r w a) = r

abbrev pub kind_of : Fault → Kind
kind_of (ThinAirRead r) = kinds.ThinAirRead
kind_of (WriteCOInitRead r a) = kinds.WriteCOInitRead
kind_of (WriteCORead r w a) = kinds.WriteCORead

-- the list has the fault
abbrev pub IsListed : List Fault → Fault → Type 0
IsListed all f = (k : ℕ) × (slice_get all k ≡ Some f)

module _ (h : MemoryHistory) where
  -- r reads the initial value of a variable, and a writes the variable before r in CO
  abbrev pub MissesAtStart : OpId → OpId → Type 0
  MissesAtStart r a = (x v : ℕ) × Reads h r x (initial h x) × Writes h a x v × CO h a r

  -- r reads from w, and a, another write of the variable, is after w and before r in CO
  abbrev pub MissesAfter : OpId → OpId → OpId → Type 0
  MissesAfter w r a = ReadsFrom h w r × AreRivalWrites h w a × CO h w a × CO h a r

  -- r missed the write a
  abbrev pub Misses : OpId → OpId → Type 0
  Misses r a = MissesAtStart r a ⊎ ((w : OpId) × MissesAfter w r a)

  -- no write that r missed is after a in CO
  abbrev pub IsLatest : OpId → OpId → Type 0
  IsLatest r a = (b : OpId) → Misses r b → ¬ CO h a b

  -- what a fault says: that its read shows its kind, by a latest write that the read missed
  abbrev pub IsFault : Fault → Type 0
  IsFault (ThinAirRead r) = IsThinAirRead h r
  IsFault (WriteCOInitRead r a) = MissesAtStart r a × IsLatest r a × ¬ IsCyclic h
  IsFault (WriteCORead r w a) = MissesAfter w r a × IsLatest r a × ¬ IsCyclic h

  -- the faults of such reads, in the order of sessions and indices, each read once: reads of thin air, and where CO has no cycle each read
  -- that missed a write
  pub record AreFaultsOf (such : OpId → Type 0) (all : List Fault) : Type 0 where
    pub each : (f : Fault) → IsListed all f → IsFault f
    pub thin_air : (r : OpId) → such r → IsThinAirRead h r → IsListed all (ThinAirRead r)
    pub start : ¬ IsCyclic h → (r b : OpId) → such r → MissesAtStart r b → (a : OpId) × IsListed all (WriteCOInitRead r a)
    pub read : ¬ IsCyclic h → (w r b : OpId) → such r → MissesAfter w r b → (a : OpId) × IsListed all (WriteCORead r w a)
    pub in_order : (j k : ℕ) (f g : Fault) → j < k → slice_get all j ≡ Some f → slice_get all k ≡ Some g
        → number h (read_of f) < number h (read_of g)

  -- all faults of the history
  abbrev pub AreFaults : List Fault → Type 0
  AreFaults all = AreFaultsOf (IsOp h) all
