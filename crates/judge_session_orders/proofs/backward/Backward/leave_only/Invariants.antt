use Rattle.std.specs.Prelude.{◌≡◌, ◌+◌, ◌<◌, ◌≤◌, ℕ, length, slice_index_or}
use Rattle.model_history.specs.History.{many_before}
use Rattle.judge_session_orders.specs.Beginnings.{IsLeftOnly}
use Rattle.judge_session_orders.specs.OnItsWay.{HasCounts, HasSizes, left_of}
use Rattle.judge_session_orders.proofs.backward.Backward.leave_only.Given as goal

-- the sessions before are done, and in the others everything is left
abbrev pub invariant-loop-session : goal.invariant-loop-session
invariant-loop-session l = record {
  sizes : HasSizes l.index l.self;
  counts : HasCounts l.index (left_of l.index.history l.self) l.self;
  only : IsLeftOnly l.index.history l.session l.pasts l.self.ends.items;
  rest : (t : ℕ) → l.session ≤ t → t < length l.index.history.1
      → slice_index_or l.self.ends.items t 0 ≡ many_before l.index.history (t + 1);
  locks : l.self.locks.items ≡ l.initial.self.locks.items;
  own : l.self.own ≡ l.initial.self.own;
  start : l.self.start ≡ l.initial.self.start;
}
