use Rattle.std.specs.Prelude.{◌≡◌, ℕ, None, length, slice_index_or}
use Rattle.judge_session_orders.proofs.backward.no_locks.Given as goal

abbrev pub invariant-loop-variable : goal.invariant-loop-variable
invariant-loop-variable l = record {
  size : length l.locks.items ≡ l._variable;
  none : (x : ℕ) → slice_index_or l.locks.items x None ≡ None;
}
