use Rattle.order_causal.specs.Steps.Waiting.{AreOfOthers}
use Rattle.order_causal.proofs.waiting_cycle.place_of_session.Given as goal

-- none of the operations so far is of the session
abbrev pub invariant-loop-place : goal.invariant-loop-place
invariant-loop-place l = AreOfOthers l.ops l.place l.session
