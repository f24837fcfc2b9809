-- When a recorder refuses. Of two causes the first in the order of these cases' conditions is answered.
use Rattle.std.specs.Prelude.{◌≡◌, ℕ, ◌<◌, ◌≤◌, Bool, true, false, length, Some, None}
use Rattle.model_history.specs.declared.limits.TheConstants.{MAX_OPERATIONS, MAX_SESSIONS}
use Rattle.live_recorder.specs.Sessions.{SessionState}
use Rattle.live_recorder.specs.declared.record_error.RecordError.{RecordError}
use Rattle.live_recorder.specs.declared.record_error.RecordError.TheVariants.{Memory, BadLimits, LaneFull, StillPending, CellGaveBack, NothingPending, WrongReturn}

-- 1 to 16 lanes of 1 to 256 places
pub record AreLimits (k cap : ℕ) : Type 0 where
  pub some_lane : 1 ≤ k
  pub few_lanes : k ≤ MAX_SESSIONS
  pub some_place : 1 ≤ cap
  pub few_places : cap ≤ MAX_OPERATIONS

-- why a recorder is not made
abbrev pub RefusesLimits : ℕ → ℕ → RecordError → Type 0
RefusesLimits k cap BadLimits = ¬ AreLimits k cap
RefusesLimits k cap Memory = AreLimits k cap
RefusesLimits k cap _ = ⊥

module _ {C R : Type 0} where
  -- nothing is pending, and the lane has a place left
  abbrev pub HasPlace : SessionState C R → Type 0
  HasPlace s = (s.pending ≡ None) × (length s.done < length s.cells.calls)

  -- why a call is not begun
  abbrev pub RefusesCall : SessionState C R → RecordError → Type 0
  RefusesCall s StillPending = (c : C) × (s.pending ≡ Some c)
  RefusesCall s LaneFull = (s.pending ≡ None) × (length s.cells.calls ≤ length s.done)
  RefusesCall s Memory = HasPlace s
  RefusesCall s CellGaveBack = HasPlace s
  RefusesCall s _ = ⊥

  -- why a return is not taken
  abbrev pub RefusesReturn : (C → R → Bool) → SessionState C R → R → RecordError → Type 0
  RefusesReturn fits s r NothingPending = s.pending ≡ None
  RefusesReturn fits s r WrongReturn = (c : C) × (s.pending ≡ Some c) × (fits c r ≡ false)
  RefusesReturn fits s r CellGaveBack = (c : C) × (s.pending ≡ Some c) × (fits c r ≡ true)
  RefusesReturn fits s r _ = ⊥
