use Rattle.std.proofs.Common.{◌≡◌, ℕ, get_or, length, []}
use Rattle.live_simulation.proofs.recording.Recording.new.Given as goal

-- the sessions so far recorded nothing
abbrev pub invariant-loop-session : goal.invariant-loop-session
invariant-loop-session g l = record { many : length l.lanes.items ≡ l._session; each : (s : ℕ) → get_or l.lanes.items s ([], []) ≡ ([], []) }
