use Rattle.std.proofs.Common.{take}
use Rattle.model_object_trait.proofs.replaying.replay.Given as goal

abbrev pub invariant-loop-call : goal.invariant-loop-call
invariant-loop-call g l = g.O.SeqObject.stands l.object l.start (take l.call-index l.calls)
