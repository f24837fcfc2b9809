-- What is known of each operation of a long history.
use Rattle.std.specs.Prelude.{◌≡◌, ◌≢◌, ◌⊎◌, ◌↔◌, ℕ, List, Option, MatchOption, slice_index_or}
use Rattle.model_history.specs.declared.op_id.OpId.{OpId}
use Rattle.model_history.specs.History.{IsOp, number}
use Rattle.order_memory.specs.Memory.{MemoryHistory, initial, Writes, Reads}
use Rattle.order_memory.specs.Relations.{ReadsFrom}
use Rattle.judge_memory.specs.declared.part.Part.{Part}
use Rattle.judge_memory.specs.declared.part.Part.TheVariants as parts

module _ (h : MemoryHistory) where
  -- a known read returned a value that is not the initial one and that nobody writes
  abbrev pub IsThinAir : OpId → Type 0
  IsThinAir r = (x v : ℕ) × Reads h r x v × (v ≢ initial h x) × ((w : OpId) → ¬ Writes h w x v)

  -- what the part of an operation says of it
  abbrev pub IsPart : OpId → Part → Type 0
  IsPart o parts.Write = (x v : ℕ) × Writes h o x v
  IsPart o (parts.SourcedRead n) = (w : OpId) × ReadsFrom h w o × (number h w ≡ n)
  IsPart o parts.InitialRead = (x : ℕ) × Reads h o x (initial h x)
  IsPart o parts.ThinAirRead = IsThinAir o
  IsPart o parts.UnknownRead = ((x v : ℕ) → ¬ Writes h o x v) × ((x v : ℕ) → ¬ Reads h o x v)

  -- the operation writes the variable x, or is a known read of it
  abbrev pub IsOfVariable : ℕ → OpId → Type 0
  IsOfVariable x o = (v : ℕ) × (Writes h o x v ⊎ Reads h o x v)

  -- the variables of writes and known reads, by the numbers of the operations: equal exactly where the keys are equal
  abbrev pub AreVariables : List ℕ → Type 0
  AreVariables variables = (a b : OpId) (x y : ℕ) → IsOfVariable x a → IsOfVariable y b
      → (slice_index_or variables (number h a) 0 ≡ slice_index_or variables (number h b) 0) ↔ (x ≡ y)

  -- e is the number of the operation that is related to o, or none is
  abbrev pub IsNumberOf : (OpId → OpId → Type 0) → OpId → Option ℕ → Type 0
  IsNumberOf related o e = MatchOption e ((p : OpId) → ¬ related p o) (λ n. (p : OpId) × IsOp h p × related p o × (number h p ≡ n))
