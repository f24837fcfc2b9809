use Rattle.std.proofs.Common.{◌<◌, List, length, sym, subst, arith}
use Rattle.log_events.specs.declared.event.Event.{Event}
use Rattle.log_events.specs.declared.event.Event.TheVariants.{Starts}
use Rattle.log_events.specs.declared.limits.TheConstants.{MAX_EVENTS}
use Rattle.log_events.specs.Pending.{MayFollow}
use Rattle.log_events.proofs.EndPlaces.{ends-start}
use Rattle.log_events.proofs.KeptLaws.{kept-start}
use Rattle.log_events.proofs.event_log.EventLog.put_start.Goals as goal

pub invariant_of-self-2 : goal.invariant_of-self-2
invariant_of-self-2 c =
    let may = subst (λ (es : List Event). MayFollow es (Starts c.args.key c.args.value)) (sym c.self.view_is) c.requires.follows in
    let room = subst (λ (es : List Event). length es < MAX_EVENTS) (sym c.self.view_is) c.requires.room in
    rw (c.then-self-inside.ensures, c.in_ok-push.ensures.ok, c.from.ensures) (
      kept-start c.self.inside.past.events c.self.inside.starts c.self.inside.calls.items c.self.inside.pending.items c.self.inside.clients
          c.self.inside.events c.args.key c.args.value c.self.invariant.0 may room (omega arith),
      ends-start c.self.inside.past.events c.self.inside.ends.items c.args.key c.args.value c.self.invariant.1,
    )
