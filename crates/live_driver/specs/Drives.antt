-- What a drive gives for an input. (This project's profile.)
use Rattle.std.specs.Prelude.{◌≡◌, ℕ, ◌+◌, ◌<◌, ◌≤◌, List, length, map, Option, Some, slice_get}
use Rattle.live_seals.specs.Cuts.{IsPrefixOf}
use Rattle.live_seals.specs.Seals.{SealState}
use Rattle.model_history.specs.declared.op_id.OpId.{OpId}
use Rattle.model_history.specs.History.{HistoryValue, entry, session}
use Rattle.live_driver.specs.declared.drive_error.DriveError.{DriveError}
use Rattle.live_driver.specs.declared.drive_error.DriveError.TheVariants.{BadLimits, NoSuch, Memory, ClockFull, CellGaveBack}

module _ {S C R : Type 0} where
  -- the calls of a session of a history, in order
  abbrev pub calls_in : HistoryValue S C R → ℕ → List C
  calls_in h s = map (λ (e : C × Option R). e.0) (session h s)

  -- a history has the start of the input and as many sessions, and in each the first calls of that session of the input, and no others
  pub record IsOfInput (input h : HistoryValue S C R) : Type 0 where
    pub start : h.0 ≡ input.0
    pub many : length h.1 ≡ length input.1
    pub calls : (s : ℕ) → IsPrefixOf (calls_in h s) (calls_in input s)

  -- the call that stays open: the last one of the session that stops
  abbrev pub StaysOpen : Option ℕ → HistoryValue S C R → OpId → Type 0
  StaysOpen stop input o = (stop ≡ Some o.session) × (o.index + 1 ≡ length (session input o.session))

  -- each session of a history begins with the input's calls, in order and with known returns, but for the call that stays open
  abbrev pub RepeatsCalls : Option ℕ → HistoryValue S C R → HistoryValue S C R → Type 0
  RepeatsCalls stop input h = (o : OpId) (c : C) (known : Option R) → entry input o ≡ Some (c, known) → ¬ StaysOpen stop input o → (r : R) × (entry h o ≡ Some (c, Some r))

  -- seals of such histories
  abbrev pub AreOfInput : HistoryValue S C R → List (SealState S C R) → Type 0
  AreOfInput input seals = (j : ℕ) (x : SealState S C R) → slice_get seals j ≡ Some x → IsOfInput input x.history

  -- the seal at this place has the input's calls so
  abbrev pub RepeatsAt : ℕ → Option ℕ → HistoryValue S C R → List (SealState S C R) → Type 0
  RepeatsAt n stop input seals = (x : SealState S C R) → slice_get seals n ≡ Some x → RepeatsCalls stop input x.history

  -- the input has a session, and the one that stops, if there is one
  pub record CanDrive (stop : Option ℕ) (input : HistoryValue S C R) : Type 0 where
    pub some_session : 0 < length input.1
    pub stopping : (s : ℕ) → stop ≡ Some s → s < length input.1

  -- why a store is not driven to the end; of BadLimits and NoSuch the first is answered
  abbrev pub RefusesDrive : Option ℕ → HistoryValue S C R → DriveError → Type 0
  RefusesDrive stop input BadLimits = length input.1 ≡ 0
  RefusesDrive stop input NoSuch = (0 < length input.1) × ((s : ℕ) × (stop ≡ Some s) × (length input.1 ≤ s))
  RefusesDrive stop input Memory = CanDrive stop input
  RefusesDrive stop input ClockFull = CanDrive stop input
  RefusesDrive stop input CellGaveBack = CanDrive stop input
