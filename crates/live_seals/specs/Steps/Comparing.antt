-- What comparing the notes of a sealed lane with others shows.
use Rattle.std.specs.Prelude.{◌≡◌, ℕ, ◌<◌, ◌≤◌, List, length, Option, Some, slice_get}
use Rattle.live_recorder.specs.Lanes.{Entry, Returned, shown}
use Rattle.live_recorder.specs.Sessions.{ReceiptState}
use Rattle.live_seals.specs.Steps.Tables.{SealedNotes}

-- the note at this place is of this cell, and knows its call; and it knows this call
abbrev pub IsCallOf : {C : Type 0} → List (ℕ × Option C) → ℕ → Option ℕ → Type 0
IsCallOf {C} notes i cell = (n : ℕ × Option C) → slice_get notes i ≡ Some n → (cell ≡ Some n.0) × ((c : C) × (n.1 ≡ Some c))

abbrev pub CallAgrees : {C : Type 0} → List (ℕ × Option C) → ℕ → Option C → Type 0
CallAgrees {C} notes i c = (n : ℕ × Option C) → slice_get notes i ≡ Some n → n.1 ≡ c

module _ {C R : Type 0} where
  -- the note at this place is of this cell, and of a record with a return
  abbrev pub IsReturnOf : List (ℕ × Option (Entry C R)) → ℕ → Option ℕ → Type 0
  IsReturnOf notes i cell = (n : ℕ × Option (Entry C R)) → slice_get notes i ≡ Some n → (cell ≡ Some n.0) × ((o : Returned C R) × (shown n.1 ≡ Some o))

  -- the note at this place shows this operation
  abbrev pub ReturnAgrees : List (ℕ × Option (Entry C R)) → ℕ → Option (Returned C R) → Type 0
  ReturnAgrees notes i o = (n : ℕ × Option (Entry C R)) → slice_get notes i ≡ Some n → shown n.1 ≡ o

  -- the sealed lane has the operations' cells of a receipt
  abbrev pub SharesCells : ReceiptState C R → SealedNotes C R → Type 0
  SharesCells r l = (length r.operations ≤ length l.returns) × ((i x : ℕ) → i < length r.operations → slice_get r.cells i ≡ Some x → IsReturnOf l.returns i (Some x))
