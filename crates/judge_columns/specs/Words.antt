-- Words of 128 bits in lists, by the numbers of operations or variables. The bit k represents the write at the place from + k of a list.
use Rattle.std.specs.Prelude.{◌≡◌, ◌↔◌, ◌⊎◌, ℕ, ◌+◌, ◌<◌, List, Option, Some, MatchOption, slice_get, slice_index_or}
use Rattle.std.specs.Int.{bit_at}
use Rattle.model_history.specs.declared.op_id.OpId.{OpId}
use Rattle.model_history.specs.History.{IsOp, number}
use Rattle.order_memory.specs.Memory.{MemoryHistory}
use Rattle.order_memory.specs.Relations.{CO, IsPast}
use Rattle.judge_memory.specs.Steps.{IsAfter, IsStep, IsVisited}

-- the word has the bit k
abbrev pub HasBit : ℕ → ℕ → Type 0
HasBit word k = bit_at word k ≡ 1

-- the word at the place n has it
abbrev pub HasBitAt : List ℕ → ℕ → ℕ → Type 0
HasBitAt words n k = HasBit (slice_index_or words n 0) k

-- a place of an array of words gets the bits of a word, if it is named
abbrev pub IsAdded : List ℕ → Option ℕ → ℕ → List ℕ → Type 0
IsAdded words place word made = (n k : ℕ) → HasBitAt made n k ↔ (HasBitAt words n k ⊎ MatchOption place ⊥ (λ m. (n ≡ m) × HasBit word k))

module _ (h : MemoryHistory) (o : OpId) (words made : List ℕ) where
  -- o takes the bits of the operations that step to it
  abbrev pub IsTaken : Type 0
  IsTaken = (n k : ℕ)
      → HasBitAt made n k ↔ (HasBitAt words n k ⊎ ((n ≡ number h o) × ((p : OpId) × IsStep h p o × HasBitAt words (number h p) k)))

  -- o gives its bits to the operations that step to it
  abbrev pub IsGiven : Type 0
  IsGiven = (n k : ℕ)
      → HasBitAt made n k ↔ (HasBitAt words n k ⊎ ((b : OpId) × IsStep h b o × (n ≡ number h b) × HasBitAt words (number h o) k))

-- nothing steps to the operation with the number n
abbrev pub HasNoPast : MemoryHistory → ℕ → Type 0
HasNoPast h n = (o p : OpId) → IsOp h o → number h o ≡ n → ¬ IsStep h p o

module _ (h : MemoryHistory) (writes : List ℕ) (from : ℕ) where
  -- the bit k represents w
  abbrev pub IsMarked : ℕ → OpId → Type 0
  IsMarked k w = IsOp h w × (slice_get writes (from + k) ≡ Some (number h w))

  -- the word of each operation has the bits of the writes in its past
  abbrev pub ArePastWords : List ℕ → Type 0
  ArePastWords words =
      (k : ℕ) (o : OpId) → k < 128 → IsOp h o → HasBitAt words (number h o) k ↔ ((w : OpId) × IsMarked k w × IsPast h o w)

  -- the word of each operation has the bits of the writes that have it in their past
  abbrev pub AreFutureWords : List ℕ → Type 0
  AreFutureWords words =
      (k : ℕ) (o : OpId) → k < 128 → IsOp h o → HasBitAt words (number h o) k ↔ ((w : OpId) × IsMarked k w × IsPast h w o)

  -- the word of each variable has the bits of its writes
  abbrev pub AreVariableWords : List ℕ → List ℕ → Type 0
  AreVariableWords variables words = (k x : ℕ) → k < 128
      → HasBitAt words x k ↔ ((w : OpId) × IsMarked k w × (slice_index_or variables (number h w) 0 ≡ x))

module _ (h : MemoryHistory) (order : List ℕ) (is : OpId → Type 0) (i : ℕ) where
  -- the operations before the place i of the order have it where such a write is in their past, and the others where they are one
  abbrev pub AreInPastBefore : (ℕ → Type 0) → Type 0
  AreInPastBefore has =
      (o : OpId) → IsOp h o → has (number h o) ↔ (is o ⊎ ((w : OpId) × is w × IsVisited h order i o × CO h w o))

  -- an operation has it where it is such a write, or steps to one from the place i on that is in the past of such a write
  abbrev pub AreInFutureFrom : (ℕ → Type 0) → Type 0
  AreInFutureFrom has = (o : OpId) → IsOp h o
      → has (number h o) ↔ (is o ⊎ ((w d : OpId) × is w × IsStep h o d × IsAfter h order i d × IsPast h w d))
