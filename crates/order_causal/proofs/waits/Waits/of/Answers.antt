use Rattle.std.proofs.Common.{◌≡◌, length, arith}
use Rattle.order_causal.proofs.WaitsLaws.{zeros-alike, zeros-count}
use Rattle.order_causal.proofs.waits.Waits.of.Goals as goal

pub returns-clause-alike : goal.returns-clause-alike
returns-clause-alike g c =
    let ended : c.loop-session.session ≡ length c.args.h.now.1 = omega arith in
    zeros-alike c.args.h.now c.loop-session.session c.loop-session.counts ended c.loop-session.invariant.so_far

pub returns-clause-none : goal.returns-clause-none
returns-clause-none g c =
    let ended : c.loop-session.session ≡ length c.args.h.now.1 = omega arith in
    zeros-count c.args.h.now c.loop-session.session c.loop-session.counts ended c.loop-session.invariant.so_far
