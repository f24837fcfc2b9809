-- What is found in one of some lanes, and which places a table has notes of.
use Rattle.std.specs.Prelude.{◌≡◌, ℕ, ◌≤◌, true, false, List, length, Option, Some, MatchOption, slice_get, slice_index}
use Rattle.model_history.specs.declared.op_id.OpId.{OpId}
use Rattle.live_recorder.specs.Lanes.{Cells, Entry}
use Rattle.live_recorder.specs.Sessions.{ReceiptState}
use Rattle.live_seals.specs.Steps.Tables.{IsCallFound, IsReturnFound, RunsTo, TableState, has_note}

-- no count is above the number of places of its lane
abbrev pub AreWithin : List Cells → List ℕ → Type 0
AreWithin lanes told = (s : ℕ) (lane : Cells) → slice_get lanes s ≡ Some lane → slice_index told s ≤ length lane.calls

-- there is a note at this place exactly where there is something
abbrev pub TellsNote : {A B : Type 0} → List (Option A) → ℕ → Option B → Type 0
TellsNote xs i x = MatchOption x (has_note xs i ≡ false) (λ _. has_note xs i ≡ true)

-- a note of the call cell of an operation in its lane, which knows its call
abbrev pub IsCallFoundAt : {C : Type 0} → List Cells → OpId → ℕ × Option C → Type 0
IsCallFoundAt lanes o n = (lane : Cells) × (slice_get lanes o.session ≡ Some lane) × IsCallFound lane o.index n

module _ {C R : Type 0} where
  -- a note of the return cell of an operation in its lane, and of a record with a return
  abbrev pub IsReturnFoundAt : List Cells → OpId → ℕ × Option (Entry C R) → Type 0
  IsReturnFoundAt lanes o n = (lane : Cells) × (slice_get lanes o.session ≡ Some lane) × IsReturnFound lane o.index n

  -- one of these receipts is of a lane, and represents so many operations
  abbrev pub HasReceipt : List (ReceiptState C R) → ℕ → ℕ → Type 0
  HasReceipt rs s many = (j : ℕ) × (r : ReceiptState C R) × (slice_get rs j ≡ Some r) × (r.lane ≡ s) × (length r.operations ≡ many)

  -- the operations behind those that were there are the calls of which a table has notes
  abbrev pub RunsToCalls : TableState C R → List (C × Option R) → List (C × Option R) → Type 0
  RunsToCalls t before es = RunsTo (has_note t.calls) (length before) (length es) (length t.calls)
