use Rattle.std.proofs.Common.{◌≡◌, ℕ, ◌∙◌, List, length, ap, sym, subst, arith, eqb, eqb-true, eq-eqb}
use Rattle.std.specs.Prelude.{◌↔◌, IsTrue, slice_index}
use Rattle.log_events.specs.declared.event.Event.{Event}
use Rattle.log_events.specs.declared.event.Event.TheVariants.{Starts, Begins}
use Rattle.log_events.specs.Events.{Call, run_calls}
use Rattle.log_events.specs.Kept.{ArePending, IsAbove}
use Rattle.log_events.specs.Pending.{MayFollow}
use Rattle.log_events.proofs.Following.{start-follows, start-after_call, start-above, begin-follows, begin-free}
use Rattle.log_events.proofs.event_log.EventLog.may_follow.Goals as goal

pub returns-then-is_empty : goal.returns-then-is_empty
returns-then-is_empty c =
    let es = c.self.inside.past.events in
    let empty = eqb-true _ _ (sym c.is_empty.ensures ∙ c.if-is_empty.true) in
    let ok = c.self.inside.calls.ok in
    let same = ap length c.self.invariant.0.calls_are in
    let none : length (run_calls es) ≡ 0 = omega arith in
    let above = c.is_above.ensures in
    let starts_are = c.self.invariant.0.starts_are in
    let iff : IsTrue c.is_above.result ↔ MayFollow es (Starts c.in-Starts.key c.in-Starts.field-1) = (
      λ t. start-follows es c.in-Starts.key c.in-Starts.field-1 none (subst (λ (s : _). IsAbove s c.in-Starts.key) starts_are (above.0 t)),
      λ may. above.1 (subst (λ (s : _). IsAbove s c.in-Starts.key) (sym starts_are) (start-above es c.in-Starts.key c.in-Starts.field-1 may)),
    ) in
    subst (λ (e : Event). IsTrue c.is_above.result ↔ MayFollow c.args.self.now e) (sym c.in-Starts.is)
    (subst (λ (fs : List Event). IsTrue c.is_above.result ↔ MayFollow fs (Starts c.in-Starts.key c.in-Starts.field-1)) c.self.view_is iff)

pub returns-else-is_empty : goal.returns-else-is_empty
returns-else-is_empty c =
    let es = c.self.inside.past.events in
    let ok = c.self.inside.calls.ok in
    let same = ap length c.self.invariant.0.calls_are in
    let iff : IsTrue c.is_empty.result ↔ MayFollow es (Starts c.in-Starts.key c.in-Starts.field-1) = (
      λ t. let wrong = sym t ∙ c.if-is_empty.false in absurd cc,
      λ may. absurd (start-after_call es c.in-Starts.key c.in-Starts.field-1
          (λ none. let equal = eq-eqb c.self.inside.calls.len 0 (omega arith) in let wrong = sym equal ∙ sym c.is_empty.ensures ∙ c.if-is_empty.false in absurd cc) may),
    ) in
    subst (λ (e : Event). IsTrue c.is_empty.result ↔ MayFollow c.args.self.now e) (sym c.in-Starts.is)
    (subst (λ (fs : List Event). IsTrue c.is_empty.result ↔ MayFollow fs (Starts c.in-Starts.key c.in-Starts.field-1)) c.self.view_is iff)

pub returns-in-Begins : goal.returns-in-Begins
returns-in-Begins c =
    let es = c.self.inside.past.events in
    let pending = c.self.inside.pending.items in
    let n = c.pending_number.result in
    let are = subst (λ (l : List Call). ArePending l pending) c.self.invariant.0.calls_are c.self.invariant.0.are_pending in
    let read = c.pending_number.ensures ∙ ap (λ (l : List ℕ). slice_index l c.in-Begins.client) c.deref.ensures.value in
    let iff : IsTrue (eqb n 0) ↔ MayFollow es (Begins c.in-Begins.client c.in-Begins.field-1) = (
      λ t. begin-follows es pending are c.in-Begins.client c.in-Begins.field-1 (sym read ∙ eqb-true n 0 t),
      λ may. eq-eqb n 0 (read ∙ begin-free es pending are c.in-Begins.client c.in-Begins.field-1 may),
    ) in
    subst (λ (e : Event). IsTrue (eqb n 0) ↔ MayFollow c.args.self.now e) (sym c.in-Begins.is)
    (subst (λ (fs : List Event). IsTrue (eqb n 0) ↔ MayFollow fs (Begins c.in-Begins.client c.in-Begins.field-1)) c.self.view_is iff)
