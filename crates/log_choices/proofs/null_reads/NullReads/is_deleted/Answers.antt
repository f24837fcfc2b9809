use Rattle.std.proofs.Common.{ℕ, List, sym, subst}
use Rattle.std.specs.Prelude.{◌↔◌, Contains, IsTrue}
use Rattle.std.specs.List.Sorted.{IsStrictlyIncreasing}
use Rattle.log_events.specs.declared.event.Event.{Event}
use Rattle.log_events.specs.Events.{run_calls}
use Rattle.log_events.specs.Histories.{is_deleted}
use Rattle.log_events.specs.Steps.CallKinds.{missed_keys}
use Rattle.log_events.proofs.OutcomesLaws.{same_tests}
use Rattle.log_events.proofs.Searching.{keys-search}
use Rattle.log_choices.specs.declared.seen.Seen.{Seen}
use Rattle.log_choices.proofs.null_reads.NullReads.is_deleted.Goals as goal

pub returns : goal.returns
returns c =
    let keys = c.self.inside.keys.items in
    let rising = subst IsStrictlyIncreasing (sym c.deref.ensures.value) c.self.invariant.keys_rise in
    let found = subst (λ (l : List ℕ). IsTrue c.is_ok.result ↔ Contains l c.args.key) c.deref.ensures.value
    (keys-search c.deref.result.now c.args.key c.binary_search.result c.is_ok.result rising c.binary_search.ensures.position c.is_ok.ensures.value) in
    let gone = subst (λ (v : List Event × List (ℕ × Seen)). Contains (missed_keys (run_calls v.0)) c.args.key → Contains keys c.args.key ↔ IsTrue (is_deleted v.0 c.args.key))
    c.self.view_is (c.self.invariant.keys_are c.args.key) in
    let here = gone c.requires in
    same_tests c.is_ok.result (is_deleted c.args.self.now.0 c.args.key) (λ t. here.0 (found.0 t), λ t. found.1 (here.1 t))
