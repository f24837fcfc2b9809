use Rattle.std.specs.Prelude.{length}
use Rattle.judge_session_orders.proofs.backward.Backward.hinted.Given as goal

abbrev pub decreases-loop-session : goal.decreases-loop-session
decreases-loop-session l = length l.hints.items
