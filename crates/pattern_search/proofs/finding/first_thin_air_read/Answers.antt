use Rattle.std.proofs.Common.{arith, ◌≤◌, length}
use Rattle.pattern_search.proofs.First.{no_thin_air, no_thin_air-more, first-from_session}
use Rattle.pattern_search.proofs.finding.first_thin_air_read.Goals as goal

pub returns-in-Some : goal.returns-in-Some
returns-in-Some c = first-from_session c.args.h.now c.loop-session.session c.in-Some.read c.loop-session.invariant c.in-Some.ensures

pub loop-session-preserved : goal.loop-session-preserved
loop-session-preserved c = no_thin_air-more c.args.h.now c.loop-session.session c.loop-session.invariant c.in_default.ensures

pub returns : goal.returns
returns c =
    let ended : length c.args.h.now.1 ≤ c.loop-session.session = omega arith in
    no_thin_air c.args.h.now c.loop-session.session ended c.loop-session.invariant
