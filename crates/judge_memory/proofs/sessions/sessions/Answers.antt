use Rattle.std.proofs.Common.{arith}
use Rattle.judge_memory.specs.Lists.{IsSessionOf}
use Rattle.judge_memory.proofs.ListsLaws.{each-all, each-none}
use Rattle.judge_memory.proofs.sessions.sessions.Goals as goal

pub loop-session-init : goal.loop-session-init
loop-session-init c = rw c.in_ok-sessions.ensures.items (each-none c.args.h.now IsSessionOf)

pub returns : goal.returns
returns c = each-all c.args.h.now IsSessionOf c.loop-session.session c.loop-session.sessions.items (omega arith) c.loop-session.invariant
