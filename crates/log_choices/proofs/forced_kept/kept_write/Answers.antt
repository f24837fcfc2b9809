use Rattle.std.proofs.Common.{◌≡◌, ℕ, ◌<◌, ap, sym, subst, List, arith}
use Rattle.std.specs.Prelude.{All, IsTrue, false, slice_index}
use Rattle.std.proofs.lemmas.List.Elements.{All-contains}
use Rattle.log_events.specs.declared.limits.TheConstants.{MAX_EVENTS}
use Rattle.log_events.specs.Events.{Call, run_calls}
use Rattle.log_events.specs.Kept.{IsSmallCall}
use Rattle.log_choices.proofs.ForcedKept.{kept-is}
use Rattle.log_choices.proofs.forced_kept.kept_write.Goals as goal

pub returns : goal.returns
returns c =
    let es = c.args.log.now in
    let a = c.args.call.now in
    let all = subst (λ (l : List Call). All IsSmallCall l) c.calls-log.ensures.exact c.calls-log.ensures.small in
    let small = (All-contains IsSmallCall (run_calls es) a all c.requires).place in
    let place : c.place.result ≡ a.place = c.place.ensures in
    let within : c.place.result < MAX_EVENTS = omega (arith, small, place) in
    λ in_time. kept-is in_time es a c.requires _ c.client.ensures place (sym c.in_ok-key.ensures)
    (λ not_lost is. let no : IsTrue false = subst IsTrue not_lost (c.is_lost.ensures.1 is) in absurd cc) within
    (λ k. ap (λ (l : List ℕ). slice_index l k) c.new.ensures.items)
