use Rattle.std.proofs.lemmas.List.{replicate_more}
use Rattle.cert_make.specs.ByProgramOrder.{IsOwnSchedule}
use Rattle.order_causal.proofs.GatheredLaws.{lists-none, lists-push}
use Rattle.order_causal.specs.Steps.Gathered.{AreListsUpTo}
use Rattle.model_history.specs.History.{session}
use Rattle.std.proofs.Common.{◌≡◌, ℕ, arith, length, subst, ◌+◌, ◌++◌, ◌∷◌, List, [], ap, replicate, ◌∙◌}
use Rattle.cert_make.proofs.program_schedules.schedules_of.Goals as goal

pub loop-index-init : goal.loop-index-init
loop-index-init g c = record {
  so_far = rw c.new-schedules.ensures (lists-none IsOwnSchedule c.args.session);
  schedule = c.new-schedule.ensures.items;
}

pub loop-index-preserved : goal.loop-index-preserved
loop-index-preserved g c =
    let s = c.args.session in
    let i = c.loop-index._index in
    let so_far = c.loop-index.invariant in
    let next : c.push.new.self.items ≡ replicate (i + 1) s =
    c.in_ok-push.ensures.items ∙ ap (λ (xs : List ℕ). xs ++ s ∷ []) so_far.schedule ∙ replicate_more i s in
    record {
      so_far = rw c.in_ok-push-2.ensures.ok
          (lists-push IsOwnSchedule s i c.loop-index.schedules c.deref.result.now so_far.so_far (c.deref.ensures.value ∙ next));
      schedule = next;
    }

pub returns : goal.returns
returns g c =
    let count = c.len-index-end.ensures.count in
    let ended : c.loop-index._index ≡ length (session c.args.h.now c.args.session) = omega arith in
    subst (λ (i : ℕ). AreListsUpTo IsOwnSchedule c.args.session i c.loop-index.schedules) ended c.loop-index.invariant.so_far
