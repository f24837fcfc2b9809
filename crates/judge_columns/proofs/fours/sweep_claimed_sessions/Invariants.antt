use Rattle.judge_columns.specs.Groups.{IsSweptSessions}
use Rattle.judge_columns.specs.Lanes.{HasNumbers, HasRows}
use Rattle.judge_columns.proofs.fours.sweep_claimed_sessions.Given as goal

abbrev pub invariant-loop-claim : goal.invariant-loop-claim
invariant-loop-claim l = record {
  rows : HasRows l.index.history l.lanes;
  numbers : HasNumbers l.index l.arrays;
  swept : IsSweptSessions l.index.history l.sessions l.found;
}
