use Rattle.judge_memory.specs.Placements.{ArePassed, next_of}
use Rattle.judge_memory.proofs.rounds.Placement.pass.Given as goal

-- the edges before the place are passed
abbrev pub invariant-loop-place : goal.invariant-loop-place
invariant-loop-place l = ArePassed l.index.history l.edges (next_of l.self.next.items) l.operation l.place
