use Rattle.std.specs.Prelude.{◌+◌, ◌<◌, length}
use Rattle.std.proofs.Common.{arith}
use Rattle.judge_memory.proofs.Numbers.{many-rises}
use Rattle.judge_session_orders.proofs.backward.Backward.leave_only.Goals as goal

pub leave_before-requires-clause-to : goal.leave_before-requires-clause-to
leave_before-requires-clause-to c =
    let h = c.args.index.now.history in
    let exists : c.loop-session.session < length h.1 = grind arith in
    let end = c.loop-session.invariant.rest c.loop-session.session (omega arith) exists in
    let past = c.requires.pasts.within c.loop-session.session in
    let start = c.start.ensures.number in
    let rises = many-rises h c.loop-session.session (c.loop-session.session + 1) (omega arith) in
    let greater = c.max.ensures in
    omega arith
