-- The lines of a derivation while they are made.
--
-- Private functions alone name these in their contracts: what a pattern is and what it shows does not rest on them.
use Rattle.std.specs.Prelude.{◌≡◌, ◌⊎◌, ℕ, ◌+◌, ◌*◌, ◌<◌, ◌≤◌, Bool, true, List, length, Some, slice_get}
use Rattle.model_history.specs.declared.op_id.OpId.{OpId}
use Rattle.order_memory.specs.declared.growing_order.Raise.{Raise}
use Rattle.order_memory.specs.Memory.{MemoryHistory}
use Rattle.order_memory.specs.SourceOrder.{SourceOrder}
use Rattle.pattern_check.specs.declared.derivation.Line.{Line}
use Rattle.pattern_check.specs.Derivations.{Pair, GivePairs}
use Rattle.pattern_search.specs.Steps.Reasons.{IsFirstRaise, last_of}

-- lines, and pairs beside them
abbrev pub Lines : Type 0
Lines = List Line × List Pair

-- the line whose number is listed for a raise gives the pair of the last operation that it counts and its operation
abbrev pub IsRaiseWritten : List Raise → List ℕ → List Pair → ℕ → Type 0
IsRaiseWritten raises written pairs n =
    (e : Raise) × (line : ℕ) × (slice_get raises n ≡ Some e) × (slice_get written n ≡ Some line) × (slice_get pairs line ≡ Some (last_of e, e.op))

-- the causal order has a pair, or such a line is listed for the first raise that gives it
abbrev pub IsWritten : MemoryHistory → List Raise → List ℕ → List Pair → Pair → Type 0
IsWritten h raises written pairs p = SourceOrder h p.0 p.1 ⊎ ((n : ℕ) × IsFirstRaise raises p n × IsRaiseWritten raises written pairs n)

module _ (h : MemoryHistory) (o : OpId) where
  -- the lines give these pairs
  abbrev pub IsDraft : Lines → Type 0
  IsDraft draft = GivePairs h o draft.0 (length draft.0) draft.1

  -- there are at most n lines more, and the line with a number gives a pair
  pub record GivesWithin (n : ℕ) (p : Pair) (before after : Lines) (number : ℕ) : Type 0 where
    pub draft : IsDraft after
    pub kept : (i : ℕ) (q : Pair) → slice_get before.1 i ≡ Some q → slice_get after.1 i ≡ Some q
    pub bounded : length after.0 ≤ length before.0 + n
    pub gives : slice_get after.1 number ≡ Some p

  -- it is the last line
  pub record EndsWithin (n : ℕ) (p : Pair) (before after : Lines) (number : ℕ) : Type 0 where
    pub line : GivesWithin n p before after number
    pub last : number + 1 ≡ length after.1

  -- at most n lines, of which the last, the one with a number, gives a pair
  pub record EndsIn (n : ℕ) (p : Pair) (made : Lines) (number : ℕ) : Type 0 where
    pub draft : IsDraft made
    pub bounded : length made.0 ≤ n
    pub gives : slice_get made.1 number ≡ Some p
    pub last : number + 1 ≡ length made.1

  -- at most five lines for each of the first n raises, among them one for each that is marked
  pub record AreWritten (raises : List Raise) (needed : List Bool) (n : ℕ) (made : Lines) (written : List ℕ) : Type 0 where
    pub draft : IsDraft made
    pub bounded : length made.0 ≤ 5 * n
    pub count : length written ≡ n
    pub each : (i : ℕ) → i < n → slice_get needed i ≡ Some true → IsRaiseWritten raises written made.1 i
