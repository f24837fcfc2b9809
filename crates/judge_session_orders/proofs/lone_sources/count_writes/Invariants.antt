use Rattle.std.specs.Prelude.{◌≡◌, length}
use Rattle.judge_session_orders.specs.LoneSources.{CountsWrites}
use Rattle.judge_session_orders.proofs.lone_sources.count_writes.Given as goal

abbrev pub invariant-loop-operation : goal.invariant-loop-operation
invariant-loop-operation l = record {
  size : length l.counts.items ≡ l.index.bound;
  counts : CountsWrites l.index.history l.index.variables l.operation l.counts.items;
}
