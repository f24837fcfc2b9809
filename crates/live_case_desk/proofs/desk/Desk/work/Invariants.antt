use Rattle.std.proofs.Common.{◌≤◌}
use Rattle.live_case_desk.proofs.desk.Desk.work.Given as goal

-- at most one verdict a turn
abbrev pub invariant-loop-turn : goal.invariant-loop-turn
invariant-loop-turn g l = l.put ≤ l._turn
