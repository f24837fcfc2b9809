use Rattle.std.specs.Prelude.{◌≡◌, ◌≢◌, ◌≤◌, ℕ, slice_index_or}
use Rattle.judge_session_orders.specs.OnItsWay.{HasCounts, HasSizes, left_of}
use Rattle.judge_session_orders.proofs.backward.Backward.leave_before.Given as goal

abbrev pub invariant-loop-self : goal.invariant-loop-self
invariant-loop-self l = record {
  sizes : HasSizes l.index l.self;
  counts : HasCounts l.index (left_of l.index.history l.self) l.self;
  from : l.end ≤ slice_index_or l.self.ends.items l.session 0;
  to : slice_index_or l.self.ends.items l.session 0 ≤ slice_index_or l.initial.self.ends.items l.session 0;
  others : (t : ℕ) → t ≢ l.session → slice_index_or l.self.ends.items t 0 ≡ slice_index_or l.initial.self.ends.items t 0;
  locks : l.self.locks.items ≡ l.initial.self.locks.items;
  own : l.self.own ≡ l.initial.self.own;
  start : l.self.start ≡ l.initial.self.start;
}

abbrev pub decreases-loop-self : goal.decreases-loop-self
decreases-loop-self l = slice_index_or l.self.ends.items l.session 0
