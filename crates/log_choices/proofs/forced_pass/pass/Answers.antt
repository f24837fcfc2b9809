use Rattle.std.proofs.Common.{◌≡◌, ◌<◌, ◌+◌, ◌++◌, ◌∙◌, ℕ, length, take, drop, take_at, sym, subst, List, Vec, Global, arith}
use Rattle.std.specs.Prelude.{Some, slice_get}
use Rattle.log_events.specs.Events.{Call}
use Rattle.log_choices.specs.ForcedSteps.{IsPastFrom}
use Rattle.log_choices.specs.declared.seen.Seen.{Seen}
use Rattle.log_choices.proofs.ForcedCalls.{get-at}
use Rattle.log_choices.proofs.ForcedPasses.{IsPassed, passed-first, passed-next, passed-over, passed-past, passed-found}
use Rattle.log_choices.proofs.forced_pass.pass.Goals as goal
use Rattle.log_choices.proofs.forced_pass.pass.Goals.{then-client-len+in_ok-advance, else-client-len}

pub loop-call-init : goal.loop-call-init
loop-call-init c =
    let pasts = c.in_ok-pasts.pasts.items in (
      subst (λ (t : List (ℕ × Seen)). IsPassed c.args.timed.now.in_time c.args.timed.now.log.now 0 c.args.plan.now pasts t) (sym (c.replace-earlier.ensures.after ∙ c.new.ensures))
          (passed-first c.args.timed.now.in_time c.args.timed.now.log.now c.args.plan.now pasts c.requires.plan c.in_ok-pasts.ensures),
      c.requires.lacking,
    )

pub advance-requires-clause-past : goal.advance-requires-clause-past
advance-requires-clause-past c =
    let es = c.args.timed.now.log.now in let in_time = c.args.timed.now.in_time in
    let a = c.call-item.result in
    let i = c.loop-call.call-index in
    let k = c.client-client.result in
    let pasts = c.loop-call.pasts.items in
    let at = subst (λ (l : List Call). slice_get l i ≡ Some a) c.calls-call-items.ensures.exact
    (get-at c.calls-call-items.result.now i a c.loop-call-test.true c.call-item.is) in
    let inside : k < length pasts = let ok = c.loop-call.pasts.ok in omega arith in
    let own = passed-past in_time es i k c.loop-call.plan pasts c.loop-call.found.seen a c.index_mut.result.now c.loop-call.invariant.0 at
    c.client-client.ensures inside in
    subst (IsPastFrom in_time es a.client a.place) (sym c.deref_mut.ensures.value)
    (subst (λ (v : Vec ℕ Global). IsPastFrom in_time es a.client a.place v.items) (sym c.index_mut.ensures.value) own)

pub advance-requires-clause-found : goal.advance-requires-clause-found
advance-requires-clause-found c =
    let a = c.call-item.result in
    let i = c.loop-call.call-index in
    let at = subst (λ (l : List Call). slice_get l i ≡ Some a) c.calls-call-items.ensures.exact
    (get-at c.calls-call-items.result.now i a c.loop-call-test.true c.call-item.is) in
    passed-found c.args.timed.now.in_time c.args.timed.now.log.now i c.loop-call.plan c.loop-call.pasts.items c.loop-call.found.seen a c.loop-call.invariant.0 at

pub loop-call-preserved : goal.loop-call-preserved
loop-call-preserved c =
    let es = c.args.timed.now.log.now in let in_time = c.args.timed.now.in_time in
    let a = c.call-item.result in
    let i = c.loop-call.call-index in
    let k = c.client-client.result in
    let plan = c.loop-call.plan in
    let pasts = c.loop-call.pasts.items in
    let table = c.loop-call.found.seen in
    let at = subst (λ (l : List Call). slice_get l i ≡ Some a) c.calls-call-items.ensures.exact
    (get-at c.calls-call-items.result.now i a c.loop-call-test.true c.call-item.is) in
    elim c.if-client-len.branch [
      | then-client-len+in_ok-advance w ↦
          let new = w.advance.new.past in
          let old = w.index_mut.result.now in
          let long : length new ≡ old.len = omega arith in
          let whole : take old.len (new ++ drop (length new) old.items) ≡ new = take_at new (drop (length new) old.items) old.len long in
          rw (w.plan-is, w.pasts-is, w.found-is) (
            (passed-next in_time es i k plan w.advance.new.plan pasts _ table w.advance.new.found.seen a c.loop-call.invariant.0 at
                c.client-client.ensures w.in_ok-advance.ensures.plan
                (subst (IsPastFrom in_time es a.client (a.place + 1)) (sym whole) w.in_ok-advance.ensures.past) w.in_ok-advance.ensures.found),
            w.in_ok-advance.ensures.lacking,
          )
      | else-client-len w ↦ rw (w.plan-is, w.pasts-is, w.found-is) (passed-over in_time es i plan pasts table c.loop-call.invariant.0, c.loop-call.invariant.1)
    ]
