use Rattle.std.specs.Prelude.{◌≡◌}
use Rattle.judge_session_orders.specs.OnItsWay.{CountsUpTo, HasCounts, HasSizes}
use Rattle.judge_session_orders.specs.Tables.{left_under}
use Rattle.judge_session_orders.proofs.backward.Backward.count.Given as goal

-- what is left of the operations with lower numbers is counted
abbrev pub invariant-loop-operation : goal.invariant-loop-operation
invariant-loop-operation l = record {
  sizes : HasSizes l.index l.self;
  ends : l.self.ends.items ≡ l.initial.self.ends.items;
  own : l.self.own ≡ l.initial.self.own;
  locks : l.self.locks.items ≡ l.initial.self.locks.items;
  most : CountsUpTo l.operation l.self;
  counts : HasCounts l.index (left_under l.index.history l.self.ends.items l.operation) l.self;
}
