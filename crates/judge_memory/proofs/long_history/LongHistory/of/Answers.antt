use Rattle.std.proofs.Common.{◌+◌, arith, ap, inr, length}
use Rattle.judge_memory.proofs.Numbers.{many-rises, one_more}
use Rattle.judge_memory.proofs.long_history.LongHistory.of.Goals as goal

pub loop-session-preserved : goal.loop-session-preserved
loop-session-preserved c =
    let next = one_more (c.args.start, c.args.sessions) c.loop-session.session (omega (arith, c.loop-session-test.true, c.len-session-end.ensures)) in
    let size = ap length c.get-more.ensures in
    record {
      count = omega (arith, next, size, c.loop-session.invariant.count);
      few = omega (arith, c.if-more-operations.false, c.loop-session.invariant.few);
    }

pub returns-then-more-operations-clause-large : goal.returns-then-more-operations-clause-large
returns-then-more-operations-clause-large c =
    let next = one_more (c.args.start, c.args.sessions) c.loop-session.session (omega (arith, c.loop-session-test.true, c.len-session-end.ensures)) in
    let size = ap length c.get-more.ensures in
    let rises = many-rises (c.args.start, c.args.sessions) (c.loop-session.session + 1) (length c.args.sessions)
    (omega (arith, c.loop-session-test.true, c.len-session-end.ensures)) in
    inr (omega (arith, next, size, rises, c.loop-session.invariant.count, c.if-more-operations.true))
