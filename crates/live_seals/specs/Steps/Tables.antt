-- What a looker keeps of what it found, and what it makes a seal of.
use Rattle.std.specs.Prelude.{◌≡◌, ℕ, ◌+◌, ◌<◌, ◌≤◌, ◌&&◌, ◌||◌, ◌++◌, Bool, true, false, List, [], ◌∷◌, length, map, Option, Some, None, option_map, slice_get, slice_index}
use Rattle.model_history.specs.declared.advice.Advice.{Advice}
use Rattle.live_recorder.specs.Lanes.{Cells, Entry, Returned, shown}
use Rattle.live_recorder.specs.Sessions.{LanesState, ReceiptState}
use Rattle.live_cut_plan.specs.declared.cell.Cell.{Cell}
use Rattle.live_cut_plan.specs.Plans.{Look, call_cell, return_cell, same_cell}
use Rattle.live_seals.specs.declared.longest.LongestReceipt.{LongestReceipt}
use Rattle.live_seals.specs.Seals.{AreReceiptsOf, AreToldBy}

-- one of these looks found the cell full
abbrev pub was_found : List Look → Cell → Bool
was_found [] c = false
was_found (l ∷ ls) c = (same_cell l.0 c && l.1) || was_found ls c

-- there is a note at this place
abbrev pub is_note : {A : Type 0} → Option (Option A) → Bool
is_note None = false
is_note (Some None) = false
is_note (Some (Some n)) = true

abbrev pub has_note : {A : Type 0} → List (Option A) → ℕ → Bool
has_note xs i = is_note (slice_get xs i)

-- the places from one on that pass a test end here: at the first that fails it, or behind the last
pub record RunsTo (test : ℕ → Bool) (from to end : ℕ) : Type 0 where
  pub from_on : from ≤ to
  pub within : to ≤ end
  pub full : (i : ℕ) → from ≤ i → i < to → test i ≡ true
  pub stops : to < end → test to ≡ false

-- for each cell of a lane a note of it, where it was found full
pub record TableState (C R : Type 0) : Type 0 where
  pub returns : List (Option (ℕ × Option (Entry C R)))
  pub calls : List (Option (ℕ × Option C))

-- notes of the returns of a session that a seal holds, and of the calls behind them
pub record SealedNotes (C R : Type 0) : Type 0 where
  pub returns : List (ℕ × Option (Entry C R))
  pub calls : List (ℕ × Option C)

-- a note of this call cell, which knows its call
abbrev pub IsCallFound : {C : Type 0} → Cells → ℕ → ℕ × Option C → Type 0
IsCallFound {C} lane i n = (slice_get lane.calls i ≡ Some n.0) × ((c : C) × (n.1 ≡ Some c))

module _ {C R : Type 0} where
  -- a note of this return cell, and of a record with a return
  abbrev pub IsReturnFound : Cells → ℕ → ℕ × Option (Entry C R) → Type 0
  IsReturnFound lane i n = (slice_get lane.returns i ≡ Some n.0) × ((o : Returned C R) × (shown n.1 ≡ Some o))

  -- a table of this lane
  pub record IsTable (lane : Cells) (t : TableState C R) : Type 0 where
    pub return_places : length t.returns ≡ length lane.returns
    pub call_places : length t.calls ≡ length lane.calls
    pub returned : (i : ℕ) (n : ℕ × Option (Entry C R)) → slice_get t.returns i ≡ Some (Some n) → IsReturnFound lane i n
    pub called : (i : ℕ) (n : ℕ × Option C) → slice_get t.calls i ≡ Some (Some n) → IsCallFound lane i n

  -- a table of session s has a note of each cell that looks found full
  pub record TellsLooks (looks : List Look) (s : ℕ) (t : TableState C R) : Type 0 where
    pub returns : (i : ℕ) → has_note t.returns i ≡ was_found looks (return_cell s i)
    pub calls : (i : ℕ) → has_note t.calls i ≡ was_found looks (call_cell s i)

  pub record AreTables (lanes : List Cells) (ts : List (TableState C R)) : Type 0 where
    pub many : length ts ≡ length lanes
    pub each : (s : ℕ) (lane : Cells) (t : TableState C R) → slice_get lanes s ≡ Some lane → slice_get ts s ≡ Some t → IsTable lane t

  -- of the first n receipts those of a lane represent at most so many operations, and one of them for as many
  pub record IsLongest (rs : List (ReceiptState C R)) (s n : ℕ) (best : LongestReceipt) : Type 0 where
    pub most : (j : ℕ) (r : ReceiptState C R) → j < n → slice_get rs j ≡ Some r → r.lane ≡ s → length r.operations ≤ best.count
    pub reached : 0 < best.count → (r : ReceiptState C R) × (slice_get rs best.at ≡ Some r) × (r.lane ≡ s) × (length r.operations ≡ best.count) × (length r.cells ≡ best.count)

  -- a return that is known by a note, as a history has it
  abbrev pub IsReturnedAs : (C → R → Bool) → Option (Entry C R) → Option (C × Option R) → Type 0
  IsReturnedAs fits k e = (c : C) × (r : R) × ((a : Advice) × (shown k ≡ Some (c, r, a))) × (e ≡ Some (c, Some r)) × (fits c r ≡ true)

  -- the operations of a session are those of which there are notes
  pub record IsSealedSession (fits : C → R → Bool) (es : List (C × Option R)) (l : SealedNotes C R) : Type 0 where
    pub many : length es ≡ length l.returns + length l.calls
    pub returned : (i : ℕ) (n : ℕ × Option (Entry C R)) → slice_get l.returns i ≡ Some n → IsReturnedAs fits n.1 (slice_get es i)
    pub called : (i : ℕ) (n : ℕ × Option C) → slice_get l.calls i ≡ Some n → (c : C) × (n.1 ≡ Some c) × (slice_get es (length l.returns + i) ≡ Some (c, None))

  -- the notes are of the cells of this lane
  pub record AreNotesOf (lane : Cells) (l : SealedNotes C R) : Type 0 where
    pub returns : (i : ℕ) (n : ℕ × Option (Entry C R)) → slice_get l.returns i ≡ Some n → slice_get lane.returns i ≡ Some n.0
    pub calls : (i : ℕ) (n : ℕ × Option C) → slice_get l.calls i ≡ Some n → slice_get lane.calls (length l.returns + i) ≡ Some n.0

  -- the cells that notes are of
  abbrev pub names : SealedNotes C R → Cells
  names l = record { calls = map (λ (n : ℕ × Option C). n.0) l.calls; returns = map (λ (n : ℕ × Option (Entry C R)). n.0) l.returns }

-- a call without a return has none
abbrev pub no_advice : {C : Type 0} → ℕ × Option C → Option Advice
no_advice n = None

module _ {C R : Type 0} where
  -- the advice that a note of a return cell shows
  abbrev pub advice_shown : ℕ × Option (Entry C R) → Option Advice
  advice_shown n = option_map (λ (o : Returned C R). o.2) (shown n.1)

  -- the advice of the operations of a session, none for a call without a return
  abbrev pub advised : SealedNotes C R → List (Option Advice)
  advised l = map advice_shown l.returns ++ map no_advice l.calls

-- what a looker keeps
pub record IsLooker {S C R : Type 0} (lanes : LanesState S) (receipts : List (ReceiptState C R)) (told : List ℕ) (cap : ℕ) (looks : List Look) (ts : List (TableState C R)) : Type 0 where
  pub of : AreReceiptsOf lanes receipts
  pub counts : AreToldBy lanes receipts told
  pub within : (s : ℕ) → slice_index told s ≤ cap
  pub places : (s : ℕ) (lane : Cells) → slice_get lanes.cells s ≡ Some lane → length lane.calls ≤ cap
  pub tables : AreTables lanes.cells ts
  pub looked : (s : ℕ) (t : TableState C R) → slice_get ts s ≡ Some t → TellsLooks looks s t
