use Rattle.std.proofs.Common.{ℕ, List, subst}
use Rattle.std.specs.Prelude.{◌↔◌, Contains, IsTrue}
use Rattle.log_events.specs.declared.event.Event.{Event}
use Rattle.log_events.specs.Events.{run_calls}
use Rattle.log_events.specs.Histories.{is_returned}
use Rattle.log_events.specs.Steps.CallKinds.{lost_pairs}
use Rattle.log_events.proofs.OutcomesLaws.{same_tests}
use Rattle.log_events.proofs.outcomes.Outcomes.is_returned.Goals as goal

pub returns : goal.returns
returns c =
    let x = c.args.key in
    let v = c.args.value in
    let pairs = c.self.inside.returned.items in
    let found = subst (λ (l : List (ℕ × ℕ)). IsTrue c.is_listed.result ↔ Contains l (x, v)) c.deref.ensures.value c.is_listed.ensures in
    let got = subst (λ (es : List Event). Contains (lost_pairs (run_calls es)) (x, v) → Contains pairs (x, v) ↔ IsTrue (is_returned es x v)) c.self.view_is
    (c.self.invariant.returned_are x v) in
    let here = got c.requires in
    same_tests c.is_listed.result (is_returned c.args.self.now x v) (λ t. here.0 (found.0 t), λ t. found.1 (here.1 t))
