use Rattle.judge_session_orders.specs.OnItsWay.{AreStopped}
use Rattle.judge_session_orders.proofs.backward.Backward.free_among.Given as goal

-- none of the sessions before the place can go on
abbrev pub invariant-loop-place : goal.invariant-loop-place
invariant-loop-place l = AreStopped l.index l.self l.sessions l.fn.from l.place
