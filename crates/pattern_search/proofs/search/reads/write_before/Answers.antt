use Rattle.std.proofs.Common.{◌≤◌, length, arith}
use Rattle.pattern_search.proofs.ReadPatterns.{write-more, write-ended}
use Rattle.pattern_search.proofs.search.reads.write_before.Goals as goal

pub loop-session-preserved : goal.loop-session-preserved
loop-session-preserved c = write-more c.args.order.now c.args.read.now c.loop-session.session c.loop-session.invariant c.in_default.ensures

pub returns : goal.returns
returns c =
    let ended : length c.args.order.now.1 ≤ c.loop-session.session = omega arith in
    write-ended c.args.order.now c.args.read.now c.loop-session.session ended c.loop-session.invariant
