use Rattle.std.specs.Prelude.{◌≡◌, length}
use Rattle.judge_memory.proofs.RoundSteps.{IsRound}
use Rattle.judge_memory.proofs.rounds.Placement.round.Given as goal

-- the sessions before the place have been run
abbrev pub invariant-loop-place : goal.invariant-loop-place
invariant-loop-place l = record {
  size : length l.sessions.items ≡ length l.initial.sessions.items;
  round : IsRound l.index.history l.edges l.fn.self.next.items l.fn.self.order.items l.self.next.items l.self.order.items l.sessions.items
      l.kept l.place;
}
