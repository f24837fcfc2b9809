use Rattle.judge_memory.specs.Placements.{next_of}
use Rattle.judge_memory.proofs.Listing.{AreUnfinishedBelow}
use Rattle.judge_memory.proofs.rounds.Placement.unfinished.Given as goal

-- the first sessions are gone through
abbrev pub invariant-loop-session : goal.invariant-loop-session
invariant-loop-session l = AreUnfinishedBelow l.index.history l.edges (next_of l.self.next.items) l.session l.passed l.sessions.items
