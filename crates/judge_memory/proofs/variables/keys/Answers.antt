use Rattle.std.proofs.Common.{arith}
use Rattle.judge_memory.specs.Lists.{IsKeyOf}
use Rattle.judge_memory.proofs.ListsLaws.{each-all, each-none}
use Rattle.judge_memory.proofs.variables.keys.Goals as goal

pub loop-session-init : goal.loop-session-init
loop-session-init c = rw c.in_ok-keys.ensures.items (each-none c.args.h.now (IsKeyOf c.args.h.now))

pub returns-clause-keys : goal.returns-clause-keys
returns-clause-keys c = each-all c.args.h.now (IsKeyOf c.args.h.now) c.loop-session.session c.loop-session.keys.items (omega arith) c.loop-session.invariant
