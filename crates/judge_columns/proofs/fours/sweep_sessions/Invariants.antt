use Rattle.std.specs.Prelude.{◌<◌, ◌≤◌, ◌-◌, ℕ, length}
use Rattle.judge_workers.specs.Numbers.{HasNumber}
use Rattle.judge_columns.specs.Groups.{IsSweptSessions}
use Rattle.judge_columns.specs.Lanes.{HasNumbers, HasRows}
use Rattle.judge_columns.proofs.fours.sweep_sessions.Given as goal

abbrev pub invariant-fours : goal.invariant-fours
invariant-fours l = record {
  rows : HasRows l.index.history l.lanes;
  numbers : HasNumbers l.index l.arrays;
  inside : l.from ≤ length l.sessions;
  swept : IsSweptSessions l.index.history l.sessions l.found;
  done : (k : ℕ) → k < l.from → HasNumber l.found.numbers.items k;
}

abbrev pub decreases-fours : goal.decreases-fours
decreases-fours l = length l.sessions - l.from
