use Rattle.std.proofs.Common.{arith}
use Rattle.judge_memory.specs.Parts.{IsPart}
use Rattle.judge_memory.proofs.ListsLaws.{each-all, each-none}
use Rattle.judge_memory.proofs.reads.parts.Goals as goal

pub loop-session-init : goal.loop-session-init
loop-session-init c = rw c.in_ok-parts.ensures.items (each-none c.args.h.now (IsPart c.args.h.now))

pub returns : goal.returns
returns c = each-all c.args.h.now (IsPart c.args.h.now) c.loop-session.session c.loop-session.parts.items (omega arith) c.loop-session.invariant
