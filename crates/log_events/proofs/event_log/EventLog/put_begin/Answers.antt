use Rattle.std.proofs.Common.{◌≡◌, ◌<◌, ◌≤◌, List, length, ap, sym, subst, arith}
use Rattle.log_events.specs.declared.event.Event.{Event}
use Rattle.log_events.specs.declared.event.Event.TheVariants.{Begins}
use Rattle.log_events.specs.declared.limits.TheConstants.{MAX_EVENTS, MAX_NAME}
use Rattle.log_events.specs.Pending.{MayFollow}
use Rattle.log_events.specs.Shapes.{called_key}
use Rattle.log_events.proofs.EndPlaces.{ends-begin, ends-wide}
use Rattle.log_events.proofs.KeptLaws.{kept-begin, kept-wide}
use Rattle.log_events.proofs.PushedEvents.{length-run_calls}
use Rattle.log_events.proofs.event_log.EventLog.put_begin.Goals as goal

pub overflow_cast-number : goal.overflow_cast-number
overflow_cast-number c =
    let few = length-run_calls c.self.inside.past.events in
    let same = ap length c.self.invariant.0.calls_are in
    let bound = c.self.invariant.0.few in
    let ok = c.self.inside.calls.ok in
    let read = c.len-number.ensures in
    omega arith

pub overflow_add-number : goal.overflow_add-number
overflow_add-number c =
    let few = length-run_calls c.self.inside.past.events in
    let same = ap length c.self.invariant.0.calls_are in
    let bound = c.self.invariant.0.few in
    let ok = c.self.inside.calls.ok in
    let read = c.len-number.ensures in
    omega arith

pub invariant_of-self-in_err-push : goal.invariant_of-self-in_err-push
invariant_of-self-in_err-push c =
    let old_ok = c.self.inside.ends.ok in
    let new_ok = c.make_room-2.new.links.ok in
    let longer = c.make_room-2.ensures.longer in
    rw c.in_err-push.ensures.items (
      kept-wide c.self.inside.past.events c.self.inside.starts c.self.inside.calls.items c.self.inside.pending.items c.make_room.new.links.items
          c.self.inside.clients c.self.inside.events c.self.invariant.0 c.make_room.ensures.kept,
      ends-wide c.self.inside.past.events c.self.inside.ends.items c.make_room-2.new.links.items c.self.invariant.1 c.make_room-2.ensures.kept
          (omega arith),
    )

pub invariant_of-self-2 : goal.invariant_of-self-2
invariant_of-self-2 c =
    let es = c.self.inside.past.events in
    let may = subst (λ (l : List Event). MayFollow l (Begins c.args.client c.args.call)) (sym c.self.view_is) c.requires.follows in
    let room = subst (λ (l : List Event). length l < MAX_EVENTS) (sym c.self.view_is) c.requires.room in
    let ok = c.self.inside.calls.ok in
    let read = c.len-number.ensures in
    let many : c.len-number.result ≡ length c.self.inside.calls.items = omega arith in
    let wide_ok = c.make_room.new.links.ok in
    let wide = c.in_ok-make_room.ensures.room in
    let inside : c.args.client < length c.make_room.new.links.items = omega arith in
    let key = c.key_of.ensures in
    let below = c.if-key_of-gt-MAX_NAME.false in
    let small : called_key c.args.call ≤ MAX_NAME = omega arith in
    let old_ok = c.self.inside.ends.ok in
    let new_ok = c.make_room-2.new.links.ok in
    let longer = c.make_room-2.ensures.longer in
    let roomy = c.in_ok-make_room-2.ensures.room in
    let calls = ap length c.self.invariant.0.calls_are in
    let ends = ends-wide es c.self.inside.ends.items c.make_room-2.new.links.items c.self.invariant.1 c.make_room-2.ensures.kept (omega arith) in
    rw (c.then-self-inside.ensures, c.in_ok-push.ensures.items, c.begun.ensures, many, c.max-self-inside.ensures) (
      kept-begin es c.self.inside.starts c.self.inside.calls.items c.self.inside.pending.items c.self.inside.clients c.self.inside.events
          c.args.client c.args.call c.self.invariant.0 may room (omega arith) small c.make_room.new.links.items c.make_room.ensures.kept inside,
      ends-begin es c.make_room-2.new.links.items c.args.client c.args.call ends (omega arith),
    )
