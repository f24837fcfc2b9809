use Rattle.std.proofs.Common.{◌≡◌, ℕ, ◌-◌, ◌∙◌, List, length, ap, sym, subst, arith, eqb, eq-eqb}
use Rattle.std.specs.Prelude.{◌↔◌, IsTrue, not, Some, slice_get, slice_index}
use Rattle.std.proofs.lemmas.Option.{slice_get_read}
use Rattle.log_events.specs.declared.event.ClientCall.{ClientCall}
use Rattle.log_events.specs.declared.event.Event.{Event}
use Rattle.log_events.specs.declared.event.Event.TheVariants.{Ends}
use Rattle.log_events.specs.Events.{Call, Fits, run_calls}
use Rattle.log_events.specs.Kept.{ArePending}
use Rattle.log_events.specs.Pending.{MayFollow}
use Rattle.log_events.proofs.Following.{end-call, end-follows, end-fits}
use Rattle.log_events.proofs.Numbers.{number-listed}
use Rattle.log_events.proofs.event_log.EventLog.may_end.Goals as goal

pub index-requires : goal.index-requires
index-requires c =
    let read = c.pending_number-number.ensures ∙ ap (λ (l : List ℕ). slice_index l c.args.client) c.deref.ensures.value in
    let number = number-listed c.self.inside.calls.items c.self.inside.pending.items c.args.client c.pending_number-number.result
    c.self.invariant.0.are_pending read c.if-number-ne0.true in
    let ok = c.self.inside.calls.ok in
    let within = number.within in
    omega arith

pub returns-then-number-ne0 : goal.returns-then-number-ne0
returns-then-number-ne0 c =
    let es = c.self.inside.past.events in
    let calls = c.self.inside.calls.items in
    let pending = c.self.inside.pending.items in
    let n = c.pending_number-number.result in
    let are = subst (λ (l : List Call). ArePending l pending) c.self.invariant.0.calls_are c.self.invariant.0.are_pending in
    let read = c.pending_number-number.ensures ∙ ap (λ (l : List ℕ). slice_index l c.args.client) c.deref.ensures.value in
    let number = number-listed calls pending c.args.client n c.self.invariant.0.are_pending read c.if-number-ne0.true in
    let at = slice_get_read calls (length calls) (n - 1) c.index.result.now (omega arith) number.within c.index.ensures in
    let there : slice_get (run_calls es) (n - 1) ≡ Some c.index.result.now = ap (λ (l : List Call). slice_get l (n - 1)) (sym c.self.invariant.0.calls_are) ∙ at in
    let fits = c.fits.ensures in
    let called = c.call.ensures in
    let iff : IsTrue c.fits.result ↔ MayFollow es (Ends c.args.client c.args.ending) = (
      λ t. end-follows es pending are c.args.client (n - 1) c.index.result.now c.args.ending number.is there
          (subst (λ (d : ClientCall). Fits d c.args.ending) called (fits.0 t)),
      λ may. fits.1 (subst (λ (d : ClientCall). Fits d c.args.ending) (sym called)
          (end-fits es pending are c.args.client (n - 1) c.index.result.now c.args.ending number.is there may)),
    ) in
    subst (λ (fs : List Event). IsTrue c.fits.result ↔ MayFollow fs (Ends c.args.client c.args.ending)) c.self.view_is iff

pub returns-else-number-ne0 : goal.returns-else-number-ne0
returns-else-number-ne0 c =
    let es = c.self.inside.past.events in
    let pending = c.self.inside.pending.items in
    let n = c.pending_number-number.result in
    let none : n ≡ 0 = omega arith in
    let is_zero = eq-eqb n 0 none in
    let are = subst (λ (l : List Call). ArePending l pending) c.self.invariant.0.calls_are c.self.invariant.0.are_pending in
    let read = c.pending_number-number.ensures ∙ ap (λ (l : List ℕ). slice_index l c.args.client) c.deref.ensures.value in
    let iff : IsTrue (not (eqb n 0)) ↔ MayFollow es (Ends c.args.client c.args.ending) = (
      λ t. let wrong = rw is_zero at t in absurd cc,
      λ may. let r = end-call es pending are c.args.client c.args.ending may in let known = r.2 in absurd (omega arith),
    ) in
    subst (λ (fs : List Event). IsTrue (not (eqb n 0)) ↔ MayFollow fs (Ends c.args.client c.args.ending)) c.self.view_is iff
