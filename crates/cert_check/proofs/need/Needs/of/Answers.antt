use Rattle.cert_check.specs.declared.need.Need.{Need}
use Rattle.std.proofs.Common.{List, length, ap, arith}
use Rattle.cert_check.proofs.NeedSteps.{needs_from_lists, session-push}
use Rattle.cert_check.proofs.need.Needs.of.Goals as goal

pub returns : goal.returns
returns g c = needs_from_lists c.args.v.now c.loop-session.sessions.items (λ s i below within.
    c.loop-session.invariant.1 s i (rw (← c.loop-session.invariant.0) below) within)

pub loop-session-init : goal.loop-session-init
loop-session-init g c = (ap (λ (xs : List (List Need)). length xs) c.new-sessions.ensures.items, λ s i below. absurd (omega arith))

pub loop-session-preserved : goal.loop-session-preserved
loop-session-preserved g c =
    rw c.in_ok-push.ensures.items
    (session-push c.args.v.now c.loop-session.session c.loop-session.sessions.items c.in_ok-needs_of_session.field-0 c.loop-session.invariant.0
    c.loop-session.invariant.1 c.in_ok-needs_of_session.ensures)
