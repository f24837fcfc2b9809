use Rattle.std.specs.Prelude.{◌≡◌}
use Rattle.judge_memory.specs.Placements.{ArePassed, IsGrownFrom, IsPlacement, next_of}
use Rattle.judge_memory.proofs.rounds.Placement.run.Given as goal

-- the operation is the next one of the session, and the edges to those before it are passed
abbrev pub invariant-loop-operation : goal.invariant-loop-operation
invariant-loop-operation l = record {
  placement : IsPlacement l.index.history l.edges l.self.next.items l.self.order.items;
  grown : IsGrownFrom l.fn.self.next.items l.fn.self.order.items l.self.next.items l.self.order.items;
  next : next_of l.self.next.items l.session ≡ l.operation;
  passed : ArePassed l.index.history l.edges (next_of l.self.next.items) l.operation l.passed;
}
