-- What a recorder is when it is made. (This project's profile.)
use Rattle.std.specs.Prelude.{◌≡◌, ℕ, List, length, map, Some, slice_get}
use Rattle.std.specs.Arc.{arc_value}
use Rattle.std.specs.declared.sync.Arc.{Arc}
use Rattle.live_recorder.specs.Lanes.{Cells}
use Rattle.live_recorder.specs.Sessions.{SessionState, LanesState, fresh_session}

-- the cells of shared lanes
abbrev pub cells_of : {Z : Type 0} → List (Arc Cells Z) → List Cells
cells_of lanes = map arc_value lanes

-- lanes of so many places, and for each the session that writes it and has recorded nothing yet
pub record AreLanes {C R : Type 0} (cap : ℕ) (cells : List Cells) (sessions : List (SessionState C R)) : Type 0 where
  pub many : length sessions ≡ length cells
  pub places : (s : ℕ) (c : Cells) → slice_get cells s ≡ Some c → length c.calls ≡ cap
  pub fresh : (s : ℕ) (c : Cells) → slice_get cells s ≡ Some c → slice_get sessions s ≡ Some (fresh_session s c)

-- a new recorder: k lanes of cap places with their sessions, and the start
pub record IsRecorder {S C R : Type 0} (k cap : ℕ) (start : S) (lanes : LanesState S) (sessions : List (SessionState C R)) : Type 0 where
  pub starts : lanes.start ≡ start
  pub many : length lanes.cells ≡ k
  pub each : AreLanes cap lanes.cells sessions
