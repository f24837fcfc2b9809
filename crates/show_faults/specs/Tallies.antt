-- What is told of a list of faults: some of them, and how many there are of each kind, altogether and in each session.
use Rattle.std.specs.Prelude.{◌≡◌, ◌==◌, ◌∷◌, ◌++◌, ℕ, ◌<◌, Bool, true, false, List, [], length, Some, slice_get, take}
use Rattle.std.specs.List.{filter}
use Rattle.order_memory.specs.Memory.{MemoryHistory}
use Rattle.pattern_check.specs.declared.kind.Kind.{Kind}
use Rattle.pattern_check.specs.declared.kind.Kind.TheVariants as kinds
use Rattle.show_faults.specs.declared.counts.FaultCounts.{FaultCounts}
use Rattle.show_faults.specs.declared.counts.SessionFaults.{SessionFaults}
use Rattle.show_faults.specs.declared.fault.Fault.{Fault}
use Rattle.show_faults.specs.declared.fault.Fault.TheVariants.{ThinAirRead, WriteCOInitRead, WriteCORead}
use Rattle.show_faults.specs.Faults.{AreFaults, IsListed, read_of}

-- the count of a kind
abbrev pub count_of : FaultCounts → Kind → ℕ
count_of counts kinds.CyclicCO = 0
count_of counts kinds.ThinAirRead = counts.thin_air
count_of counts kinds.WriteCOInitRead = counts.start
count_of counts kinds.WriteCORead = counts.read
count_of counts kinds.WriteHBInitRead = 0
count_of counts kinds.CyclicHB = 0
count_of counts kinds.CyclicCF = 0

-- whether a fault is of a kind
abbrev pub is_thin_air : Fault → Bool
is_thin_air (ThinAirRead r) = true
is_thin_air (WriteCOInitRead r a) = false
is_thin_air (WriteCORead r w a) = false

abbrev pub is_start : Fault → Bool
is_start (ThinAirRead r) = false
is_start (WriteCOInitRead r a) = true
is_start (WriteCORead r w a) = false

abbrev pub is_read : Fault → Bool
is_read (ThinAirRead r) = false
is_read (WriteCOInitRead r a) = false
is_read (WriteCORead r w a) = true

-- whether its read is of the session t
abbrev pub is_of : ℕ → Fault → Bool
is_of t f = (read_of f).session == t

-- how many faults of a list are of each kind
pub record AreCounts (all : List Fault) (counts : FaultCounts) : Type 0 where
  pub thin_air : counts.thin_air ≡ length (filter is_thin_air all)
  pub start : counts.start ≡ length (filter is_start all)
  pub read : counts.read ≡ length (filter is_read all)

-- each count is below n
pub record IsBelow (counts : FaultCounts) (n : ℕ) : Type 0 where
  pub thin_air : counts.thin_air < n
  pub start : counts.start < n
  pub read : counts.read < n

-- each count of each row is below n
abbrev pub AreBelow : List SessionFaults → ℕ → Type 0
AreBelow rows n = (j : ℕ) (row : SessionFaults) → slice_get rows j ≡ Some row → IsBelow row.counts n

-- a list of the first faults, before and after one more comes
abbrev pub IsListedWith : ℕ → Fault → List Fault → List Fault → Type 0
IsListedWith most fault before after = (all : List Fault) → before ≡ take most all → after ≡ take most (all ++ fault ∷ [])

-- a row for each session of which the list has a fault, in the order of sessions
pub record AreSessionCounts (all : List Fault) (rows : List SessionFaults) : Type 0 where
  pub each : (f : Fault) → IsListed all f → (j : ℕ) × (row : SessionFaults) × (slice_get rows j ≡ Some row)
      × (row.session ≡ (read_of f).session)
  pub counts : (j : ℕ) (row : SessionFaults) → slice_get rows j ≡ Some row → AreCounts (filter (is_of row.session) all) row.counts
  pub no_other : (j : ℕ) (row : SessionFaults) → slice_get rows j ≡ Some row
      → (f : Fault) × IsListed all f × (row.session ≡ (read_of f).session)
  pub in_order : (i j : ℕ) (first second : SessionFaults) → i < j → slice_get rows i ≡ Some first → slice_get rows j ≡ Some second
      → first.session < second.session

-- the first ones, at most so many, and the counts of all
pub record IsTally (all : List Fault) (most : ℕ) (listed : List Fault) (counts : FaultCounts) (rows : List SessionFaults) : Type 0 where
  pub first : listed ≡ take most all
  pub by_kind : AreCounts all counts
  pub by_session : AreSessionCounts all rows

-- the same of all faults of a history
abbrev pub IsTallyOf : MemoryHistory → ℕ → List Fault → FaultCounts → List SessionFaults → Type 0
IsTallyOf h most listed counts rows = (all : List Fault) × AreFaults h all × IsTally all most listed counts rows
