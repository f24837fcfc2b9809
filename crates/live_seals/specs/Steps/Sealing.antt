-- What is read of a lane as it is sealed.
use Rattle.std.specs.Prelude.{◌≡◌, ℕ, ◌+◌, ◌<◌, ◌≤◌, ◌++◌, ◌∷◌, [], Bool, true, List, length, Option, Some, None, slice_get, slice_index}
use Rattle.model_history.specs.declared.limits.TheConstants.{MAX_OPERATIONS}
use Rattle.live_recorder.specs.Lanes.{Cells, Entry, shown}
use Rattle.live_recorder.specs.Sessions.{ReceiptState}
use Rattle.live_cut_plan.specs.Plans.{Look, call_cell, return_cell}
use Rattle.live_seals.specs.declared.longest.LongestReceipt.{LongestReceipt}
use Rattle.model_history.specs.History.{HistoryValue, session}
use Rattle.model_history.specs.declared.advice.Advice.{Advice}
use Rattle.live_seals.specs.Steps.Tables.{IsReturnedAs, SealedNotes, TableState, IsSealedSession, AreNotesOf, RunsTo, has_note, was_found}
use Rattle.live_seals.specs.Steps.Comparing.{ReturnAgrees}

module _ {C R : Type 0} where
  -- a receipt of this lane represents so many operations, if any
  abbrev pub IsToldBy : List (ReceiptState C R) → Cells → LongestReceipt → Type 0
  IsToldBy rs lane best = 0 < best.count → (r : ReceiptState C R) × (slice_get rs best.at ≡ Some r) × (length r.operations ≡ best.count) × ((i x : ℕ) → slice_get r.cells i ≡ Some x → slice_get lane.returns i ≡ Some x)

  -- one more operation with its return and its advice, and a note of its cell
  pub record ReadsReturn (fits : C → R → Bool) (lane : Cells) (i : ℕ) (notes notes' : List (ℕ × Option (Entry C R))) (es es' : List (C × Option R)) (ds ds' : List (Option Advice)) : Type 0 where
    pub cell : ℕ
    pub known : Option (Entry C R)
    pub call : C
    pub ret : R
    pub advice : Advice
    pub of : slice_get lane.returns i ≡ Some cell
    pub shows : shown known ≡ Some (call, ret, advice)
    pub fitting : fits call ret ≡ true
    pub noted : notes' ≡ notes ++ (cell, known) ∷ []
    pub pushed : es' ≡ es ++ (call, Some ret) ∷ []
    pub advised : ds' ≡ ds ++ Some advice ∷ []

  -- one more call, and a note of its cell
  pub record ReadsCall (lane : Cells) (i : ℕ) (notes notes' : List (ℕ × Option C)) (es es' : List (C × Option R)) (ds ds' : List (Option Advice)) : Type 0 where
    pub cell : ℕ
    pub known : Option C
    pub call : C
    pub of : slice_get lane.calls i ≡ Some cell
    pub shows : known ≡ Some call
    pub noted : notes' ≡ notes ++ (cell, known) ∷ []
    pub pushed : es' ≡ es ++ (call, None) ∷ []
    pub advised : ds' ≡ ds ++ None ∷ []

  -- the returns of a lane from the first on, with notes of their cells
  pub record AreReturnsRead (fits : C → R → Bool) (lane : Cells) (notes : List (ℕ × Option (Entry C R))) (es : List (C × Option R)) : Type 0 where
    pub many : length es ≡ length notes
    pub of : (i : ℕ) (n : ℕ × Option (Entry C R)) → slice_get notes i ≡ Some n → slice_get lane.returns i ≡ Some n.0
    pub shows : (i : ℕ) (n : ℕ × Option (Entry C R)) → slice_get notes i ≡ Some n → IsReturnedAs fits n.1 (slice_get es i)

  -- calls of a lane behind its returns, with notes of their cells
  pub record AreCallsRead (lane : Cells) (before : List (C × Option R)) (notes : List (ℕ × Option C)) (es : List (C × Option R)) : Type 0 where
    pub many : length es ≡ length before + length notes
    pub front : (i : ℕ) → i < length before → slice_get es i ≡ slice_get before i
    pub of : (i : ℕ) (n : ℕ × Option C) → slice_get notes i ≡ Some n → slice_get lane.calls (length before + i) ≡ Some n.0
    pub shows : (i : ℕ) (n : ℕ × Option C) → slice_get notes i ≡ Some n → (c : C) × (n.1 ≡ Some c) × (slice_get es (length before + i) ≡ Some (c, None))

-- each session of a history is sealed by the notes of its lane
pub record AreSealedSessions {S C R : Type 0} (fits : C → R → Bool) (h : HistoryValue S C R) (ls : List (SealedNotes C R)) : Type 0 where
  pub many : length ls ≡ length h.1
  pub each : (s : ℕ) (l : SealedNotes C R) → slice_get ls s ≡ Some l → IsSealedSession fits (session h s) l

module _ {C R : Type 0} where
  -- a session as it was sealed from its lane: it has all that receipts of the lane represent
  pub record IsLaneSealed (fits : C → R → Bool) (lane : Cells) (rs : List (ReceiptState C R)) (s : ℕ) (es : List (C × Option R)) (l : SealedNotes C R) : Type 0 where
    pub session : IsSealedSession fits es l
    pub notes : AreNotesOf lane l
    pub short : length es ≤ MAX_OPERATIONS
    pub told : (j : ℕ) (r : ReceiptState C R) → slice_get rs j ≡ Some r → r.lane ≡ s → length r.operations ≤ length l.returns

  -- and of all lanes
  pub record AreLanesSealed (fits : C → R → Bool) (cells : List Cells) (rs : List (ReceiptState C R)) (ess : List (List (C × Option R))) (ls : List (SealedNotes C R)) : Type 0 where
    pub sessions : length ess ≡ length cells
    pub lanes : length ls ≡ length cells
    pub each : (s : ℕ) (es : List (C × Option R)) (l : SealedNotes C R) (lane : Cells) → slice_get ess s ≡ Some es → slice_get ls s ≡ Some l → slice_get cells s ≡ Some lane → IsLaneSealed fits lane rs s es l

  -- a session as it was sealed has the returns of which the table of its lane has notes, behind those that were told, and the
  -- calls of which it has notes behind them
  pub record IsOfTable (t : TableState C R) (told : ℕ) (es : List (C × Option R)) (l : SealedNotes C R) : Type 0 where
    pub returns : RunsTo (has_note t.returns) told (length l.returns) (length t.returns)
    pub calls : RunsTo (has_note t.calls) (length l.returns) (length es) (length t.calls)

  -- and so what looks found
  pub record IsLaneFound (looks : List Look) (s told cap : ℕ) (es : List (C × Option R)) (l : SealedNotes C R) : Type 0 where
    pub returns : RunsTo (λ i. was_found looks (return_cell s i)) told (length l.returns) cap
    pub calls : RunsTo (λ i. was_found looks (call_cell s i)) (length l.returns) (length es) cap

  abbrev pub AreLanesFound : List Look → List ℕ → ℕ → List (List (C × Option R)) → List (SealedNotes C R) → Type 0
  AreLanesFound looks told cap ess ls =
      (s : ℕ) (es : List (C × Option R)) (l : SealedNotes C R) → slice_get ess s ≡ Some es → slice_get ls s ≡ Some l → IsLaneFound looks s (slice_index told s) cap es l

  -- each operation of a receipt is shown by a note of its lane
  abbrev pub IsShown : List (SealedNotes C R) → ReceiptState C R → Type 0
  IsShown ls r = (l : SealedNotes C R) → slice_get ls r.lane ≡ Some l → (i : ℕ) → i < length r.operations → ReturnAgrees l.returns i (slice_get r.operations i)
