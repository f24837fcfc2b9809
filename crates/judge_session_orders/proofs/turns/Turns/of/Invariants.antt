use Rattle.judge_session_orders.specs.OnItsWay.{ListsSessions}
use Rattle.judge_session_orders.proofs.turns.Turns.of.Given as goal

abbrev pub invariant-loop-session : goal.invariant-loop-session
invariant-loop-session l = ListsSessions l.index.history l.session l.sessions.items
