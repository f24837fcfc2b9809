use Rattle.order_memory.proofs.RelationsMade.{takes-given}
use Rattle.order_memory.proofs.happened_before.HappenedBefore.pass_next.Goals as goal

pub returns : goal.returns
returns c = takes-given c.args.h.now c.args.self c.requires.made c.requires.next c.requires.given
