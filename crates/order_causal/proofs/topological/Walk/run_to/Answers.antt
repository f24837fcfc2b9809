use Rattle.std.proofs.Common.{◌<◌, List, ℕ, length, sym, subst}
use Rattle.order_causal.proofs.Walked.{limit-within, room, room-push, walk-push, within-push, seen-push}
use Rattle.order_causal.proofs.topological.Walk.run_to.Goals as goal

pub loop-session-smaller : goal.loop-session-smaller
loop-session-smaller c =
    let below = c.in-Some.ensures.next.can.below in
    let limits = c.args.limits.now in
    let inside = limit-within limits c.in-Some.session _ below in
    let less = room-push (length limits) limits c.loop-session.self c.in-Some.session inside below in
    subst (λ (schedule : List ℕ). room (length limits) limits schedule < room (length limits) limits c.loop-session.self)
    (sym c.in_ok-place.ensures.ok) less

pub loop-session-preserved : goal.loop-session-preserved
loop-session-preserved c =
    let next = c.in-Some.ensures.next in
    let v = c.args.vectors.now in
    let limits = c.args.limits.now in
    rw c.in_ok-place.ensures.ok (record {
      walk = walk-push v limits c.args.self.now c.loop-session.self c.in-Some.session c.loop-session.invariant.walk next;
      within = within-push limits c.args.self.now c.loop-session.self c.in-Some.session c.loop-session.invariant.within next.can.below;
      seen = seen-push v c.loop-session.self c.next.new.seen c.in-Some.session c.next.ensures.seen;
    })
