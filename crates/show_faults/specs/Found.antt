-- What is found of one operation, and of the first ones.
use Rattle.std.specs.Prelude.{◌≡◌, ◌≢◌, ◌+◌, ◌≤◌, ℕ, List, length, Option, MatchOption, Some, slice_get}
use Rattle.model_history.specs.declared.op_id.OpId.{OpId}
use Rattle.model_history.specs.History.{IsOp, number}
use Rattle.order_memory.specs.Memory.{MemoryHistory}
use Rattle.order_memory.specs.SourceOrder.{IsCyclic}
use Rattle.judge_columns.specs.Sights.{IsSeen}
use Rattle.pattern_check.specs.Kinds.{IsThinAirRead}
use Rattle.show_faults.specs.declared.counts.FaultCounts.{FaultCounts}
use Rattle.show_faults.specs.declared.counts.SessionFaults.{SessionFaults}
use Rattle.show_faults.specs.declared.fault.Fault.{Fault}
use Rattle.show_faults.specs.Faults.{AreFaultsOf, IsFault, IsLatest, IsListed, Misses, read_of}
use Rattle.show_faults.specs.Tallies.{IsTally}

module _ (h : MemoryHistory) (o : OpId) where
  -- the fault that o shows, or it shows none
  abbrev pub IsFoundFor : Option Fault → Type 0
  IsFoundFor found = MatchOption found
      (¬ IsThinAirRead h o × (¬ IsCyclic h → (a : OpId) → ¬ Misses h o a))
      (λ f. IsFault h f × (read_of f ≡ o))

  -- the latest write that o missed, or it missed none
  abbrev pub IsMissedBy : Option OpId → Type 0
  IsMissedBy missed = MatchOption missed
      (¬ IsCyclic h → (a : OpId) → ¬ Misses h o a)
      (λ a. Misses h o a × IsLatest h o a × ¬ IsCyclic h)

-- what is found of the operation with a number
abbrev pub IsFoundAt : MemoryHistory → ℕ → Option Fault → Type 0
IsFoundAt h n found = (o : OpId) → IsOp h o → number h o ≡ n → IsFoundFor h o found

-- the latest write that the operation with a number missed, or it missed none
abbrev pub IsMissedAt : MemoryHistory → ℕ → Option OpId → Type 0
IsMissedAt h n missed = (o : OpId) → IsOp h o → number h o ≡ n → IsMissedBy h o missed

-- a tally of all faults of operations with numbers below n
pub record IsTallyBelow (h : MemoryHistory) (n most : ℕ) (listed : List Fault) (counts : FaultCounts) (rows : List SessionFaults)
    : Type 0 where
  pub all : List Fault
  pub faults : AreFaultsOf h (IsSeen h n) all
  pub tally : IsTally all most listed counts rows
  pub seen : (f : Fault) → IsListed all f → IsSeen h n (read_of f)
  pub few : length all ≤ n

-- the last row of a list is the one of a session, at its place, or it is not
abbrev pub IsLastRow : List SessionFaults → ℕ → Option ℕ → Type 0
IsLastRow rows session found = MatchOption found
    ((j : ℕ) (row : SessionFaults) → length rows ≡ j + 1 → slice_get rows j ≡ Some row → row.session ≢ session)
    (λ j. (row : SessionFaults) × (length rows ≡ j + 1) × (slice_get rows j ≡ Some row) × (row.session ≡ session))
