use Rattle.std.proofs.Common.{◌≡◌, ℕ, ◌-◌, ◌<◌, List, length, ◌∙◌, ap, sym, subst, arith}
use Rattle.std.specs.Prelude.{Some, slice_get, slice_index}
use Rattle.std.proofs.lemmas.Option.{slice_get_read}
use Rattle.log_events.specs.declared.event.Event.{Event}
use Rattle.log_events.specs.declared.event.Event.TheVariants.{Ends}
use Rattle.log_events.specs.declared.limits.TheConstants.{MAX_EVENTS}
use Rattle.log_events.specs.Events.{Call}
use Rattle.log_events.specs.Kept.{ArePending}
use Rattle.log_events.specs.Pending.{MayFollow}
use Rattle.log_events.proofs.EndPlaces.{ends-end}
use Rattle.log_events.proofs.KeptLaws.{kept-end}
use Rattle.log_events.proofs.Numbers.{end-listed}
use Rattle.log_events.proofs.event_log.EventLog.put_end.Goals as goal

pub overflow_sub-number : goal.overflow_sub-number
overflow_sub-number c =
    let may = subst (λ (es : List Event). MayFollow es (Ends c.args.client c.args.ending)) (sym c.self.view_is) c.requires.follows in
    let read = c.pending_number.ensures ∙ ap (λ (l : List ℕ). slice_index l c.args.client) c.deref.ensures.value in
    (end-listed c.self.inside.past.events c.self.inside.calls.items c.self.inside.pending.items c.args.client c.pending_number.result c.args.ending
    c.self.invariant.0.calls_are c.self.invariant.0.are_pending read may).positive

pub index-requires : goal.index-requires
index-requires c =
    let may = subst (λ (es : List Event). MayFollow es (Ends c.args.client c.args.ending)) (sym c.self.view_is) c.requires.follows in
    let read = c.pending_number.ensures ∙ ap (λ (l : List ℕ). slice_index l c.args.client) c.deref.ensures.value in
    let number = end-listed c.self.inside.past.events c.self.inside.calls.items c.self.inside.pending.items c.args.client c.pending_number.result c.args.ending
    c.self.invariant.0.calls_are c.self.invariant.0.are_pending read may in
    let ok = c.self.inside.calls.ok in
    let within = number.within in
    omega arith

pub index_mut-requires : goal.index_mut-requires
index_mut-requires c =
    let may = subst (λ (es : List Event). MayFollow es (Ends c.args.client c.args.ending)) (sym c.self.view_is) c.requires.follows in
    let read = c.pending_number.ensures ∙ ap (λ (l : List ℕ). slice_index l c.args.client) c.deref.ensures.value in
    let number = end-listed c.self.inside.past.events c.self.inside.calls.items c.self.inside.pending.items c.args.client c.pending_number.result c.args.ending
    c.self.invariant.0.calls_are c.self.invariant.0.are_pending read may in
    let ok = c.self.inside.calls.ok in
    let within = number.within in
    omega arith

pub index_mut-requires-2 : goal.index_mut-requires-2
index_mut-requires-2 c =
    let may = subst (λ (es : List Event). MayFollow es (Ends c.args.client c.args.ending)) (sym c.self.view_is) c.requires.follows in
    let read = c.pending_number.ensures ∙ ap (λ (l : List ℕ). slice_index l c.args.client) c.deref.ensures.value in
    let number = end-listed c.self.inside.past.events c.self.inside.calls.items c.self.inside.pending.items c.args.client c.pending_number.result c.args.ending
    c.self.invariant.0.calls_are c.self.invariant.0.are_pending read may in
    let ok = c.self.inside.ends.ok in
    let within = number.within in
    let room = c.self.invariant.1.room in
    let same = ap length c.self.invariant.0.calls_are in
    omega arith

pub index_mut-requires-3 : goal.index_mut-requires-3
index_mut-requires-3 c =
    let may = subst (λ (es : List Event). MayFollow es (Ends c.args.client c.args.ending)) (sym c.self.view_is) c.requires.follows in
    let read = c.pending_number.ensures ∙ ap (λ (l : List ℕ). slice_index l c.args.client) c.deref.ensures.value in
    let number = end-listed c.self.inside.past.events c.self.inside.calls.items c.self.inside.pending.items c.args.client c.pending_number.result c.args.ending
    c.self.invariant.0.calls_are c.self.invariant.0.are_pending read may in
    let ok = c.self.inside.pending.ok in
    let within = number.client_within in
    omega arith

pub invariant_of-self : goal.invariant_of-self
invariant_of-self c =
    let es = c.self.inside.past.events in
    let calls = c.self.inside.calls.items in
    let pending = c.self.inside.pending.items in
    let may = subst (λ (l : List Event). MayFollow l (Ends c.args.client c.args.ending)) (sym c.self.view_is) c.requires.follows in
    let room = subst (λ (l : List Event). length l < MAX_EVENTS) (sym c.self.view_is) c.requires.room in
    let read = c.pending_number.ensures ∙ ap (λ (l : List ℕ). slice_index l c.args.client) c.deref.ensures.value in
    let number = end-listed es calls pending c.args.client c.pending_number.result c.args.ending
    c.self.invariant.0.calls_are c.self.invariant.0.are_pending read may in
    let at = slice_get_read calls (length calls) (c.pending_number.result - 1) c.index.result.now (omega arith) number.within c.index.ensures in
    let are = subst (λ (l : List Call). ArePending l pending) c.self.invariant.0.calls_are c.self.invariant.0.are_pending in
    let at_run = subst (λ (l : List Call). slice_get l (c.pending_number.result - 1) ≡ Some c.index.result.now) c.self.invariant.0.calls_are at in
    rw (c.then-self-inside.ensures, c.ended.ensures) (
      kept-end es c.self.inside.starts calls pending c.self.inside.clients c.self.inside.events
          c.args.client (c.pending_number.result - 1) c.index.result.now c.args.ending c.self.invariant.0 may room number.is at,
      rw c.self.invariant.0.count
          (ends-end es c.self.inside.ends.items pending c.args.client (c.pending_number.result - 1) c.index.result.now c.args.ending
          c.self.invariant.1 are number.is at_run),
    )
