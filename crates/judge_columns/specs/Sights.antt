-- What a read shows of the last write of a session in its past, and what a sweep notes of it.
use Rattle.std.specs.Prelude.{◌≡◌, ◌≢◌, ◌⊎◌, ℕ, ◌+◌, ◌^◌, ◌<◌, ◌≤◌, Bool, true, List, slice_index_or}
use Rattle.model_history.specs.declared.op_id.OpId.{OpId}
use Rattle.model_history.specs.History.{IsOp, number}
use Rattle.order_memory.specs.Memory.{MemoryHistory, Writes}
use Rattle.judge_columns.specs.declared.sight.Sight.{Sight}
use Rattle.judge_columns.specs.declared.sight.Sight.TheVariants as sights
use Rattle.judge_columns.specs.LastWrites.{IsLastBeside, IsLastTable, ShowsRead, ShowsStart}
use Rattle.judge_columns.specs.Visits.{IsGreater}

-- a writes the variable that has the number x
abbrev pub WritesNumbered : MemoryHistory → List ℕ → ℕ → OpId → Type 0
WritesNumbered h variables x a = ((y v : ℕ) × Writes h a y v) × (slice_index_or variables (number h a) 0 ≡ x)

-- a list has the last writes of the session t below at, by the numbers of their variables
abbrev pub IsTable : MemoryHistory → List ℕ → ℕ → ℕ → List ℕ → Type 0
IsTable h variables t at last = IsLastTable h (WritesNumbered h variables) t at (λ x. slice_index_or last x 0)

-- what the last write a and the source w show, if end is the end for w and first the first for w
abbrev pub IsComparison : (end first a w : ℕ) → Sight → Type 0
IsComparison end first a w sights.Nothing = (a ≡ w) ⊎ ((a ≢ w) × (a < first) × (a < end))
IsComparison end first a w sights.OverwrittenStart = ⊥
IsComparison end first a w sights.OverwrittenRead = (a ≢ w) × (first ≤ a)
IsComparison end first a w (sights.Conflict n m) = (a ≢ w) × (a < first) × (n ≡ a) × (m ≡ w)

-- the number of its source is below n, and the number after that of its write fits 32 bits
abbrev pub IsSmall : Sight → ℕ → Type 0
IsSmall sights.Nothing n = Unit {0}
IsSmall sights.OverwrittenStart n = Unit {0}
IsSmall sights.OverwrittenRead n = Unit {0}
IsSmall (sights.Conflict a w) n = (w < n) × (a + 1 < 2 ^ 32)

module _ (h : MemoryHistory) (t : ℕ) (ends firsts : ℕ → ℕ) where
  -- what r shows
  abbrev pub IsSight : OpId → Sight → Type 0
  IsSight r sights.Nothing =
      ¬ ShowsStart h t ends r
      × ((w a : OpId) → IsLastBeside h t ends w r a → (number h a < firsts (number h w)) × (number h a < ends (number h w)))
  IsSight r sights.OverwrittenStart = ShowsStart h t ends r
  IsSight r sights.OverwrittenRead = ShowsRead h t ends firsts r
  IsSight r (sights.Conflict n m) =
      (w a : OpId) × IsLastBeside h t ends w r a × (number h a < firsts (number h w)) × (number h a ≡ n) × (number h w ≡ m)

-- at k stands the greater of what stood there and m
pub record IsRaisedAt (late raised : ℕ → ℕ) (k m : ℕ) : Type 0 where
  pub here : IsGreater (late k) m (raised k)
  pub others : (n : ℕ) → n ≢ k → raised n ≡ late n

-- a sight changes nothing, or sets a flag, or raises the place of the read's source to the number after that of the last write
abbrev pub IsNoted : Sight → (start read : Bool) → (ℕ → ℕ) → (start_now read_now : Bool) → (ℕ → ℕ) → Type 0
IsNoted sights.Nothing start read late start_now read_now late_now =
    (start_now ≡ start) × (read_now ≡ read) × ((n : ℕ) → late_now n ≡ late n)
IsNoted sights.OverwrittenStart start read late start_now read_now late_now =
    (start_now ≡ true) × (read_now ≡ read) × ((n : ℕ) → late_now n ≡ late n)
IsNoted sights.OverwrittenRead start read late start_now read_now late_now =
    (start_now ≡ start) × (read_now ≡ true) × ((n : ℕ) → late_now n ≡ late n)
IsNoted (sights.Conflict n m) start read late start_now read_now late_now =
    (start_now ≡ start) × (read_now ≡ read) × IsRaisedAt late late_now m (n + 1)

-- r is an operation with a number below n
abbrev pub IsSeen : MemoryHistory → ℕ → OpId → Type 0
IsSeen h n r = IsOp h r × (number h r < n)
