use Rattle.std.proofs.Common.{◌<◌, length, arith}
use Rattle.judge_decision.proofs.WithoutLimits.{keys_next, sessions_next}
use Rattle.judge_decision.proofs.lengthened.lengthened.Goals as goal

pub loop-session-preserved : goal.loop-session-preserved
loop-session-preserved c =
    let h = c.args.h.now in
    let n = c.loop-session.session in
    let end = c.sessions-session-end.ensures.count in
    let below = c.loop-session-test.true in
    let there : n < length h.1 = omega arith in
    record {
      sessions = sessions_next h.1 c.loop-session.sessions c.add_session.new.sessions n c.session.result.now there c.loop-session.invariant.sessions
          c.session.ensures.operations c.in_ok-add_session.ensures.added;
      keys = keys_next h.1 n c.session.result.now c.session.ensures.operations c.in_ok-add_session.ensures.keys c.loop-session.invariant.keys;
    }
