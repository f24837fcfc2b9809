use Rattle.std.proofs.Common.{◌≡◌, ℕ, List, ap, sym, subst, ◌∙◌}
use Rattle.std.specs.Prelude.{Contains}
use Rattle.std.proofs.lemmas.List.{take_all}
use Rattle.std.proofs.lemmas.List.Sorted.{Contains-permutation, IsPermutation-sym}
use Rattle.log_events.specs.Events.{Call, run_calls}
use Rattle.log_events.proofs.Loops.{filter_map_more-some, filter_map_more-none, None-from}
use Rattle.log_choices.specs.ChoiceTables.{choice_in}
use Rattle.log_choices.specs.Steps.ChosenCalls.{seen_pair, seen_pairs}
use Rattle.log_choices.proofs.SeenPairs.{seen_pairs-any}
use Rattle.log_choices.proofs.lost_calls.seen_deletes.Goals as goal
use Rattle.log_choices.proofs.lost_calls.seen_deletes.Goals.{in-Some+in_ok-push, in_default}

pub seen_pair-requires : goal.seen_pair-requires
seen_pair-requires c =
    let same = c.calls-call-items.ensures.exact ∙ ap run_calls c.log.ensures in
    subst (λ (l : List Call). Contains l c.call-item.result) same (c.loop-call.call-index, c.loop-call-test.true, sym c.call-item.is)

pub loop-call-preserved : goal.loop-call-preserved
loop-call-preserved c =
    let of_call = λ (a : Call). seen_pair c.args.reads.now.0 (choice_in c.args.reads.now.1) a.place a.call a.ending in
    let calls = c.calls-call-items.result.now in
    elim c.match-seen_pair.branch [
      | in-Some+in_ok-push w ↦ rw (w.pairs-is, w.in_ok-push.ensures.items, c.loop-call.invariant)
          (sym (filter_map_more-some of_call calls c.loop-call.call-index c.call-item.result
          c.loop-call-test.true c.call-item.is w.in-Some.pair (sym w.in-Some.ensures)))
      | in_default w ↦ rw (w.pairs-is, c.loop-call.invariant)
          (sym (filter_map_more-none of_call calls c.loop-call.call-index c.call-item.result
          c.loop-call-test.true c.call-item.is (sym c.seen_pair.ensures ∙ None-from c.seen_pair.result w.in_default.not-Some)))
    ]

pub returns-clause-exact : goal.returns-clause-exact
returns-clause-exact c =
    let es = c.args.reads.now.0 in
    let f = (choice_in c.args.reads.now.1) in
    let calls = c.calls-call-items.result.now in
    let is : c.loop-call.pairs.items ≡ seen_pairs es f (run_calls es) =
    c.loop-call.invariant ∙ ap (seen_pairs es f) (take_all c.loop-call.call-index calls c.loop-call-test.false ∙ c.calls-call-items.ensures.exact
    ∙ ap run_calls c.log.ensures) in
    let moved = c.sort_unstable.ensures.permutation in
    λ x p.
    let any = seen_pairs-any x p es f in (
      λ h. any.0 (subst (λ (l : List (ℕ × ℕ)). Contains l (x, p)) is (Contains-permutation _ _ (x, p) (IsPermutation-sym _ _ moved) h)),
      λ h. Contains-permutation _ _ (x, p) moved (subst (λ (l : List (ℕ × ℕ)). Contains l (x, p)) (sym is) (any.1 h)),
    )
