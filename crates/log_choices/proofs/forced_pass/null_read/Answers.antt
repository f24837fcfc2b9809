use Rattle.std.proofs.Common.{◌≡◌, sym, subst, List, arith, ◌∙◌}
use Rattle.std.specs.Prelude.{All, Some, false, slice_get}
use Rattle.std.proofs.lemmas.List.Elements.{All-contains}
use Rattle.log_events.specs.Events.{Call, run_calls}
use Rattle.log_events.specs.Kept.{IsSmallCall}
use Rattle.log_choices.proofs.ForcedCalls.{get-at}
use Rattle.log_choices.proofs.ForcedPasses.{gets-nothing}
use Rattle.log_choices.proofs.forced_pass.null_read.Goals as goal

pub overflow_cast-number : goal.overflow_cast-number
overflow_cast-number c =
    let bound = c.partition_point-number.ensures.bound in
    let few = c.calls-calls.ensures.few in
    omega arith

pub returns : goal.returns
returns c =
    let es = c.args.log.now in
    let a = c.args.call.now in
    let n = c.partition_point-number.result in
    let b = c.in_ok-get.field-0.now in
    let all = subst (All IsSmallCall) c.calls-calls.ensures.exact c.calls-calls.ensures.small in
    let within = get-at c.calls-calls.result.now n b c.in_ok-get.ensures.lookup.3.0 c.in_ok-get.ensures.lookup.1 in
    let at = subst (λ (l : List Call). slice_get l n ≡ Some b) c.calls-calls.ensures.exact within in
    let same : b.place ≡ a.place = sym c.place.ensures ∙ c.if-place.false ∙ c.place-2.ensures in (
      gets-nothing false es a c.requires.call (All-contains IsSmallCall (run_calls es) a all c.requires.call) n b at same _ c.in_ok-end.ensures.some
          c.client.ensures c.place-3.ensures c.requires.read c.requires.nothing,
      c.place-3.ensures,
    )
