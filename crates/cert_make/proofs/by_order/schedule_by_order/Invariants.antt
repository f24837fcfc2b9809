use Rattle.cert_make.specs.ByOrder.{AreTurns}
use Rattle.cert_make.proofs.by_order.schedule_by_order.Given as goal

-- the entries so far have had their turns
abbrev pub invariant-loop-done : goal.invariant-loop-done
invariant-loop-done g l = AreTurns g.O.SeqObject.query l.h l.reported l.op l.done l.walk
