use Rattle.std.proofs.Common.{◌≡◌, ℕ, ◌-◌, ◌∙◌, List, length, ap, sym, subst, arith}
use Rattle.std.specs.Prelude.{Some, slice_get, slice_index}
use Rattle.std.proofs.lemmas.Option.{slice_get_read}
use Rattle.log_events.specs.declared.event.ClientCall.{ClientCall}
use Rattle.log_events.specs.declared.event.Event.{Event}
use Rattle.log_events.specs.Events.{Call, run_calls}
use Rattle.log_events.specs.Kept.{ArePending}
use Rattle.log_events.specs.Pending.{IsPending}
use Rattle.log_events.proofs.Following.{none-pending, one-pending}
use Rattle.log_events.proofs.Numbers.{number-listed}
use Rattle.log_events.proofs.event_log.EventLog.pending.Goals as goal

pub index-requires : goal.index-requires
index-requires c =
    let read = c.pending_number-number.ensures ∙ ap (λ (l : List ℕ). slice_index l c.args.client) c.deref.ensures.value in
    let number = number-listed c.self.inside.calls.items c.self.inside.pending.items c.args.client c.pending_number-number.result
    c.self.invariant.0.are_pending read c.if-number-eq0.false in
    let ok = c.self.inside.calls.ok in
    let within = number.within in
    omega arith

pub returns-then-number-eq0-clause-none : goal.returns-then-number-eq0-clause-none
returns-then-number-eq0-clause-none c =
    let es = c.self.inside.past.events in
    let pending = c.self.inside.pending.items in
    let are = subst (λ (l : List Call). ArePending l pending) c.self.invariant.0.calls_are c.self.invariant.0.are_pending in
    let read = c.pending_number-number.ensures ∙ ap (λ (l : List ℕ). slice_index l c.args.client) c.deref.ensures.value in
    let none = sym read ∙ c.if-number-eq0.true in
    subst (λ (fs : List Event). (call : ClientCall) → ¬ IsPending fs c.args.client call) c.self.view_is
    (λ call (i, is_open). none-pending es pending are c.args.client none i call is_open)

pub returns-else-number-eq0-clause-some : goal.returns-else-number-eq0-clause-some
returns-else-number-eq0-clause-some c =
    let es = c.self.inside.past.events in
    let calls = c.self.inside.calls.items in
    let pending = c.self.inside.pending.items in
    let n = c.pending_number-number.result in
    let are = subst (λ (l : List Call). ArePending l pending) c.self.invariant.0.calls_are c.self.invariant.0.are_pending in
    let read = c.pending_number-number.ensures ∙ ap (λ (l : List ℕ). slice_index l c.args.client) c.deref.ensures.value in
    let number = number-listed calls pending c.args.client n c.self.invariant.0.are_pending read c.if-number-eq0.false in
    let at = slice_get_read calls (length calls) (n - 1) c.index.result.now (omega arith) number.within c.index.ensures in
    let there : slice_get (run_calls es) (n - 1) ≡ Some c.index.result.now = ap (λ (l : List Call). slice_get l (n - 1)) (sym c.self.invariant.0.calls_are) ∙ at in
    subst (λ (fs : List Event). IsPending fs c.args.client c.call.result) c.self.view_is
    (subst (λ (d : ClientCall). IsPending es c.args.client d) (sym c.call.ensures)
    (c.index.result.now.place, one-pending es pending are c.args.client (n - 1) c.index.result.now number.is there))
