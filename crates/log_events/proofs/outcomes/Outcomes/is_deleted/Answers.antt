use Rattle.std.proofs.Common.{ℕ, List, sym, subst}
use Rattle.std.specs.Prelude.{◌↔◌, Contains, IsTrue}
use Rattle.std.specs.List.Sorted.{IsStrictlyIncreasing}
use Rattle.log_events.specs.declared.event.Event.{Event}
use Rattle.log_events.specs.Histories.{is_deleted}
use Rattle.log_events.proofs.OutcomesLaws.{same_tests}
use Rattle.log_events.proofs.Searching.{keys-search}
use Rattle.log_events.proofs.outcomes.Outcomes.is_deleted.Goals as goal

pub returns : goal.returns
returns c =
    let keys = c.self.inside.deleted.items in
    let rising = subst IsStrictlyIncreasing (sym c.deref.ensures.value) c.self.invariant.rising in
    let found = subst (λ (l : List ℕ). IsTrue c.is_ok.result ↔ Contains l c.args.key) c.deref.ensures.value
    (keys-search c.deref.result.now c.args.key c.binary_search.result c.is_ok.result rising c.binary_search.ensures.position c.is_ok.ensures.value) in
    let gone = subst (λ (es : List Event). Contains keys c.args.key ↔ IsTrue (is_deleted es c.args.key)) c.self.view_is (c.self.invariant.deleted_are c.args.key) in
    same_tests c.is_ok.result (is_deleted c.args.self.now c.args.key) (λ t. gone.0 (found.0 t), λ t. found.1 (gone.1 t))
