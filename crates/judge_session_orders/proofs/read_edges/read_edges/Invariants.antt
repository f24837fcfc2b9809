use Rattle.std.specs.Prelude.{◌-◌, length}
use Rattle.judge_session_orders.proofs.ReadEdges.{AreEdgesFrom}
use Rattle.judge_session_orders.proofs.read_edges.read_edges.Given as goal

abbrev pub invariant-loop-i : goal.invariant-loop-i
invariant-loop-i l = AreEdgesFrom l.index.history l.order (length l.order) (length l.order - l.i) l.edges.items
