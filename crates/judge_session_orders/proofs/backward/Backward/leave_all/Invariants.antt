use Rattle.std.specs.Prelude.{◌≡◌, ◌+◌, ◌<◌, ℕ, slice_index_or}
use Rattle.model_history.specs.History.{many_before}
use Rattle.judge_session_orders.specs.OnItsWay.{CountsUpTo, HasSizes}
use Rattle.judge_session_orders.proofs.backward.Backward.leave_all.Given as goal

abbrev pub invariant-loop-session : goal.invariant-loop-session
invariant-loop-session l = record {
  sizes : HasSizes l.index l.self;
  zero : CountsUpTo 0 l.self;
  ends : (t : ℕ) → t < l.session → slice_index_or l.self.ends.items t 0 ≡ many_before l.index.history (t + 1);
}
