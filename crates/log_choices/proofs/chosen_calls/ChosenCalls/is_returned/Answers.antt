use Rattle.std.proofs.Common.{ℕ, List, sym, subst}
use Rattle.std.specs.Prelude.{◌↔◌, Contains, IsTrue}
use Rattle.std.specs.List.Sorted.{IsStrictlyIncreasing}
use Rattle.log_events.specs.declared.event.Event.{Event}
use Rattle.log_events.specs.Histories.{is_returned}
use Rattle.log_events.proofs.OutcomesLaws.{same_tests}
use Rattle.log_events.proofs.Searching.{keys-search}
use Rattle.log_choices.specs.declared.seen.Seen.{Seen}
use Rattle.log_choices.specs.Steps.ChosenCalls.{IsLostWrite}
use Rattle.log_choices.proofs.chosen_calls.ChosenCalls.is_returned.Goals as goal

pub returns : goal.returns
returns c = λ x v lost.
    let p = c.args.place in
    let places = c.self.inside.returned.items in
    let rising = subst IsStrictlyIncreasing (sym c.deref.ensures.value) c.self.invariant.returned_rise in
    let found = subst (λ (l : List ℕ). IsTrue c.is_ok.result ↔ Contains l p) c.deref.ensures.value
    (keys-search c.deref.result.now p c.binary_search.result c.is_ok.result rising c.binary_search.ensures.position c.is_ok.ensures.value) in
    let are = subst (λ (w : List Event × List (ℕ × Seen)). IsLostWrite w.0 p x v → Contains places p ↔ IsTrue (is_returned w.0 x v))
    c.self.view_is (c.self.invariant.returned_are p x v) in
    let here = are lost in
    same_tests c.is_ok.result (is_returned c.args.self.now.0 x v) (λ t. here.0 (found.0 t), λ t. found.1 (here.1 t))
