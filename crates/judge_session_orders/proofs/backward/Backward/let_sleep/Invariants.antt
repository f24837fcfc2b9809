use Rattle.std.specs.Prelude.{◌≤◌, length}
use Rattle.judge_session_orders.specs.OnItsWay.{IsAwake}
use Rattle.judge_session_orders.proofs.backward.Backward.let_sleep.Given as goal

abbrev pub invariant-loop-place : goal.invariant-loop-place
invariant-loop-place l = record {
  bound : l.place ≤ length l.awake.items;
  awake : IsAwake l.index l.self l.awake.items;
}
