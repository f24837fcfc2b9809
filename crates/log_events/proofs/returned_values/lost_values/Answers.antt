use Rattle.std.proofs.Common.{◌≡◌, ℕ, List, ap, sym, subst, ◌∙◌}
use Rattle.std.specs.Prelude.{Contains}
use Rattle.std.proofs.lemmas.List.{take_all}
use Rattle.std.proofs.lemmas.List.Sorted.{Contains-permutation, IsPermutation-sym}
use Rattle.log_events.specs.Events.{Call}
use Rattle.log_events.specs.Steps.CallKinds.{lost_pair, lost_pairs}
use Rattle.log_events.proofs.Loops.{filter_map_more-some, filter_map_more-none, None-from}
use Rattle.log_events.proofs.returned_values.lost_values.Goals as goal
use Rattle.log_events.proofs.returned_values.lost_values.Goals.{in-Some+in_ok-push, in_default}

pub loop-call-preserved : goal.loop-call-preserved
loop-call-preserved c = elim c.match-lost_pair.branch [
  | in-Some+in_ok-push w ↦ rw (w.pairs-is, w.in_ok-push.ensures.items, c.loop-call.invariant)
      (sym (filter_map_more-some (λ (a : Call). lost_pair a.call a.ending) c.args.calls.now c.loop-call.call-index c.call-item.result
      c.loop-call-test.true c.call-item.is w.in-Some.pair (sym w.in-Some.ensures)))
  | in_default w ↦ rw (w.pairs-is, c.loop-call.invariant)
      (sym (filter_map_more-none (λ (a : Call). lost_pair a.call a.ending) c.args.calls.now c.loop-call.call-index c.call-item.result
      c.loop-call-test.true c.call-item.is (sym c.lost_pair.ensures ∙ None-from c.lost_pair.result w.in_default.not-Some)))
]

pub returns-clause-exact : goal.returns-clause-exact
returns-clause-exact c =
    let is : c.loop-call.pairs.items ≡ lost_pairs c.args.calls.now =
    c.loop-call.invariant ∙ ap lost_pairs (take_all c.loop-call.call-index c.args.calls.now c.loop-call-test.false) in
    let moved = c.sort_unstable.ensures.permutation in
    λ x v. (
      λ h. subst (λ (l : List (ℕ × ℕ)). Contains l (x, v)) is (Contains-permutation _ _ (x, v) (IsPermutation-sym _ _ moved) h),
      λ h. Contains-permutation _ _ (x, v) moved (subst (λ (l : List (ℕ × ℕ)). Contains l (x, v)) (sym is) h),
    )
