use Rattle.std.proofs.Common.{◌≡◌, ℕ, List, ap, sym, subst, ◌∙◌}
use Rattle.std.specs.Prelude.{Contains}
use Rattle.std.proofs.lemmas.List.{take_all}
use Rattle.std.proofs.lemmas.List.Filters.{dedup_is}
use Rattle.std.proofs.lemmas.List.Kept.{Contains-dedup_nat, Contains-from_dedup}
use Rattle.std.proofs.lemmas.List.Sorted.{Contains-permutation, IsPermutation-sym}
use Rattle.std.proofs.lemmas.Map.Keys.{IsStrictlyIncreasing-dedup}
use Rattle.log_events.specs.Events.{Call}
use Rattle.log_events.specs.Steps.CallKinds.{deleted_key, deleted_keys}
use Rattle.log_events.proofs.Loops.{filter_map_more-some, filter_map_more-none, None-from}
use Rattle.log_events.proofs.deleted_keys.deleted_keys.Goals as goal
use Rattle.log_events.proofs.deleted_keys.deleted_keys.Goals.{in-Some+in_ok-push, in_default}

pub loop-call-preserved : goal.loop-call-preserved
loop-call-preserved c = elim c.match-deleted_key.branch [
  | in-Some+in_ok-push w ↦ rw (w.keys-is, w.in_ok-push.ensures.items, c.loop-call.invariant)
      (sym (filter_map_more-some (λ (a : Call). deleted_key a.call a.ending) c.args.calls.now c.loop-call.call-index c.call-item.result
      c.loop-call-test.true c.call-item.is w.in-Some.key (sym w.in-Some.ensures)))
  | in_default w ↦ rw (w.keys-is, c.loop-call.invariant)
      (sym (filter_map_more-none (λ (a : Call). deleted_key a.call a.ending) c.args.calls.now c.loop-call.call-index c.call-item.result
      c.loop-call-test.true c.call-item.is (sym c.deleted_key.ensures ∙ None-from c.deleted_key.result w.in_default.not-Some)))
]

pub returns-clause-rising : goal.returns-clause-rising
returns-clause-rising c = rw (dedup_is _ _ _ c.dedup.ensures.filtered) (IsStrictlyIncreasing-dedup _ c.sort_unstable.ensures.sorted)

pub returns-clause-exact : goal.returns-clause-exact
returns-clause-exact c =
    let is : c.loop-call.keys.items ≡ deleted_keys c.args.calls.now =
    c.loop-call.invariant ∙ ap deleted_keys (take_all c.loop-call.call-index c.args.calls.now c.loop-call-test.false) in
    let moved = c.sort_unstable.ensures.permutation in
    let kept = dedup_is _ _ _ c.dedup.ensures.filtered in
    λ x. (
      λ h. subst (λ (l : List ℕ). Contains l x) is (Contains-permutation _ _ x (IsPermutation-sym _ _ moved) (Contains-from_dedup _ _ x (rw kept at h))),
      λ h. rw kept (Contains-dedup_nat _ x (Contains-permutation _ _ x moved (subst (λ (l : List ℕ). Contains l x) (sym is) h))),
    )
