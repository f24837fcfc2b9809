use Rattle.std.specs.Prelude.{◌+◌, ◌<◌, ◌≤◌, ℕ}
use Rattle.judge_workers.specs.Numbers.{HasNumber}
use Rattle.judge_columns.specs.Groups.{IsSweptSessions}
use Rattle.judge_columns.specs.Lanes.{HasNumbers}
use Rattle.judge_columns.proofs.swept.sweep_four.Given as goal

abbrev pub invariant-loop-lane : goal.invariant-loop-lane
invariant-loop-lane l = record {
  numbers : HasNumbers l.index l.arrays;
  swept : IsSweptSessions l.index.history l.sessions l.found;
  kept : (k : ℕ) → HasNumber l.initial.found.numbers.items k → HasNumber l.found.numbers.items k;
  added : (k : ℕ) → l.from ≤ k → k < l.from + l.lane → k < l.to → HasNumber l.found.numbers.items k;
}
