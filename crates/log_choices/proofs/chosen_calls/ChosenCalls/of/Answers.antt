use Rattle.std.proofs.Common.{ℕ, List, ap, sym, subst}
use Rattle.std.specs.Prelude.{◌↔◌, All, Contains, IsTrue}
use Rattle.std.specs.List.Sorted.{IsStrictlyIncreasing}
use Rattle.log_events.specs.declared.event.Event.{Event}
use Rattle.log_events.specs.Events.{run_calls}
use Rattle.log_events.specs.Histories.{is_returned}
use Rattle.log_events.specs.Kept.{IsSmallCall}
use Rattle.log_choices.specs.declared.seen.Seen.{Seen}
use Rattle.log_choices.specs.Steps.ChosenCalls.{IsLostWrite}
use Rattle.log_choices.proofs.ForkPlaces.{fork_places-are, fork_places-rise}
use Rattle.log_choices.proofs.chosen_calls.ChosenCalls.of.Goals as goal

pub invariant_of-result : goal.invariant_of-result
invariant_of-result c =
    let es = c.args.log.now in
    let returned = c.in_ok-returned.returned.items in
    let same = ap (λ (v : List Event × List (ℕ × Seen)). v.0) c.in_ok-reads.ensures in record {
      returned_rise = subst IsStrictlyIncreasing (sym c.in_ok-returned.ensures) (fork_places-rise es);
      returned_are = λ p x v. subst (λ (l : List Event). IsLostWrite l p x v → Contains returned p ↔ IsTrue (is_returned l x v)) (sym same)
          (λ lost. subst (λ (l : List ℕ). Contains l p ↔ IsTrue (is_returned es x v)) (sym c.in_ok-returned.ensures) (fork_places-are es p x v lost));
      seen_sorted = c.in_ok-seen.ensures.sorted;
      seen_are = c.in_ok-seen.ensures.exact;
      small = subst (λ (l : List Event). All IsSmallCall (run_calls l)) (sym same)
          (subst (All IsSmallCall) c.calls-calls.ensures.exact c.calls-calls.ensures.small);
    }
