use Rattle.std.proofs.Common.{ℕ, List, ap, subst, ◌∙◌, arith, length}
use Rattle.std.proofs.lemmas.Result.{IfOk-weaker}
use Rattle.log_events.specs.Events.{Call}
use Rattle.log_events.specs.Steps.CallKinds.{missed_key}
use Rattle.log_events.specs.Steps.Tallies.{IsTally}
use Rattle.log_events.proofs.ListPlaces.{length-filter_map}
use Rattle.log_events.proofs.deleted_keys.missed_reads.Goals as goal

pub tally_of-requires-clause-few : goal.tally_of-requires-clause-few
tally_of-requires-clause-few c =
    let same = ap (λ (l : List ℕ). length l) (c.deref.ensures.value ∙ c.in_ok-missed.ensures) in
    let fewer = length-filter_map (λ (a : Call). missed_key a.call a.ending) c.args.calls.now in
    let few = c.requires.few in
    omega arith

pub returns : goal.returns
returns c =
    let keys = c.args.keys.now in
    IfOk-weaker c.tally_of.result _ _
    (λ tally is_tally. subst (λ (l : List ℕ). IsTally l keys tally.items) (c.deref.ensures.value ∙ c.in_ok-missed.ensures) is_tally)
    c.tally_of.ensures
