use Rattle.std.proofs.Common.{◌<◌, ◌≤◌, ◌≢◌, ℕ, get_or}
use Rattle.live_replica.proofs.replica.has_seen.Given as goal

-- of the sessions so far
abbrev pub invariant-loop-s : goal.invariant-loop-s
invariant-loop-s g l = (s : ℕ) → s < l.s → s ≢ l.update.session → s ≢ l.session → get_or l.update.seen s 0 ≤ get_or l.counts s 0
