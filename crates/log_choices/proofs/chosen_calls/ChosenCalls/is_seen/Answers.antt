use Rattle.std.proofs.Common.{ℕ, List, sym, subst}
use Rattle.std.specs.Prelude.{◌↔◌, Contains, IsTrue}
use Rattle.log_events.specs.declared.event.Event.{Event}
use Rattle.log_events.specs.Steps.Outcomes.{AreSorted}
use Rattle.log_events.proofs.OutcomesLaws.{same_tests}
use Rattle.log_events.proofs.Searching.{pairs-search}
use Rattle.log_choices.specs.ChoiceTables.{choice_in}
use Rattle.log_choices.specs.declared.seen.Seen.{Seen}
use Rattle.log_choices.specs.ChosenHistories.{is_seen}
use Rattle.log_choices.proofs.chosen_calls.ChosenCalls.is_seen.Goals as goal

pub returns : goal.returns
returns c =
    let x = c.args.key in
    let p = c.args.place in
    let pairs = c.self.inside.seen.items in
    let sorted = subst AreSorted (sym c.deref.ensures.value) c.self.invariant.seen_sorted in
    let found = subst (λ (l : List (ℕ × ℕ)). IsTrue c.is_ok.result ↔ Contains l (x, p)) c.deref.ensures.value
    (pairs-search c.deref.result.now x p c.binary_search.result c.is_ok.result sorted c.binary_search.ensures.bound
    c.binary_search.ensures.position c.is_ok.ensures.value) in
    let here = subst (λ (w : List Event × List (ℕ × Seen)). Contains pairs (x, p) ↔ IsTrue (is_seen w.0 (choice_in w.1) x p)) c.self.view_is (c.self.invariant.seen_are x p) in
    same_tests c.is_ok.result (is_seen c.args.self.now.0 (choice_in c.args.self.now.1) x p) (λ t. here.0 (found.0 t), λ t. found.1 (here.1 t))
