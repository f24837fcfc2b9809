use Rattle.std.proofs.Common.{◌∙◌, ap, sym, ℕ}
use Rattle.std.specs.Prelude.{Option, Some, option_map}
use Rattle.std.proofs.lemmas.List.{map-append}
use Rattle.log_events.proofs.Loops.{filter_map_more-some, filter_map_more-none}
use Rattle.log_choices.specs.ForcedSteps.{deleted_spot}
use Rattle.log_choices.proofs.forced_kept.listed_deletes.Goals as goal
use Rattle.log_choices.proofs.forced_kept.listed_deletes.Goals.{in-Some+in_ok-push, in_default}

pub loop-call-preserved : goal.loop-call-preserved
loop-call-preserved c =
    let a = c.call-item.result in
    let spot : Option ℕ → Option (ℕ × ℕ) = option_map (λ (x : ℕ). (x, a.place)) in
    elim c.match-deleted_key.branch [
      | in-Some+in_ok-push w ↦
          let placed : ℕ → Option (ℕ × ℕ) = λ n. Some (w.in-Some.key, n) in
          rw (w.deletes-is, w.in_ok-push.ensures.items, map-append, c.loop-call.invariant)
          (sym (filter_map_more-some deleted_spot c.args.calls.now c.loop-call.call-index a c.loop-call-test.true c.call-item.is
          (w.in-Some.key, w.place.result) (sym (ap spot w.in-Some.ensures) ∙ ap placed (sym w.place.ensures))))
      | in_default w ↦
          rw (w.deletes-is, c.loop-call.invariant)
          (sym (filter_map_more-none deleted_spot c.args.calls.now c.loop-call.call-index a c.loop-call-test.true c.call-item.is
          (sym (ap spot w.in_default.ensures))))
    ]
