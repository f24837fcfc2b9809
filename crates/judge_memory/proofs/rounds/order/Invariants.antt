use Rattle.std.specs.Prelude.{◌-◌, length}
use Rattle.judge_memory.specs.Steps.{many}
use Rattle.judge_memory.specs.Placements.{IsPlacement, next_of}
use Rattle.judge_memory.specs.Sessions.{AreUnfinished}
use Rattle.judge_memory.proofs.rounds.order.Given as goal

-- the first operations of each session are placed, and the sessions that are not finished are listed
abbrev pub invariant-loop-sessions : goal.invariant-loop-sessions
invariant-loop-sessions l = record {
  placement : IsPlacement l.index.history l.edges l.placement.next.items l.placement.order.items;
  sessions : AreUnfinished l.index.history l.edges (next_of l.placement.next.items) l.sessions.items;
}

abbrev pub decreases-loop-sessions : goal.decreases-loop-sessions
decreases-loop-sessions l = many l.index.history - length l.placement.order.items
