use Rattle.std.proofs.Common.{◌≡◌, ◌∙◌, List, ap, sym, subst}
use Rattle.std.specs.Prelude.{All, Some, None, slice_get}
use Rattle.std.proofs.lemmas.List.Elements.{All-contains}
use Rattle.std.proofs.lemmas.Option.{same_Some}
use Rattle.log_events.specs.Events.{Call, run_calls}
use Rattle.log_events.specs.Kept.{IsSmallCall}
use Rattle.log_events.specs.Steps.CallKinds.{missed_key}
use Rattle.log_events.proofs.CallKindsLaws.{place-Contains}
use Rattle.log_choices.proofs.CheckedChoices.{no-null, pending-no-null, null-gets}
use Rattle.log_choices.proofs.ForcedCalls.{get-at}
use Rattle.log_choices.proofs.checked_choice.null_read.Goals as goal

pub returns-in_err-key-clause-none : goal.returns-in_err-key-clause-none
returns-in_err-key-clause-none c =
    let es = c.args.log.now in
    let n = c.args.number in
    let b = c.in_ok-call.call.now in
    let within = get-at c.calls.result.now n b c.in_ok-call.ensures.lookup.3.0 c.in_ok-call.ensures.lookup.1 in
    let at = subst (λ (l : List Call). slice_get l n ≡ Some b) c.calls.ensures.exact within in
    let missed : missed_key b.call b.ending ≡ None = sym c.missed_key.ensures ∙ c.in_err-key.was in
    rw c.from_residual-in_err-key.ensures
    (λ a client x j there. no-null es a (place-Contains (run_calls es) n a there)
    (subst (λ (d : Call). missed_key d.call d.ending ≡ None) (same_Some _ _ (sym at ∙ there)) missed) client x j)

pub returns-in_err-end-clause-none : goal.returns-in_err-end-clause-none
returns-in_err-end-clause-none c =
    let es = c.args.log.now in
    rw c.from_residual-in_err-end.ensures
    (λ a client x j there.
    pending-no-null es a (place-Contains (run_calls es) c.args.number a there) (c.in_err-end.ensures.none a there) client x j)

pub returns-clause-some : goal.returns-clause-some
returns-clause-some c =
    let es = c.args.log.now in
    let n = c.args.number in
    let b = c.in_ok-call.call.now in
    let within = get-at c.calls.result.now n b c.in_ok-call.ensures.lookup.3.0 c.in_ok-call.ensures.lookup.1 in
    let at = subst (λ (l : List Call). slice_get l n ≡ Some b) c.calls.ensures.exact within in
    let all = subst (All IsSmallCall) c.calls.ensures.exact c.calls.ensures.small in
    let small = All-contains IsSmallCall (run_calls es) b all (place-Contains (run_calls es) n b at) in (
      null-gets es b n at small _ c.in_ok-end.ensures.some c.client.ensures c.place.ensures (sym c.missed_key.ensures ∙ c.in_ok-key.was),
      λ a there. c.place.ensures ∙ ap (λ (d : Call). d.place) (same_Some _ _ (sym at ∙ there)),
    )
