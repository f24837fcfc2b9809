use Rattle.order_causal.specs.Steps.Gathered.{AreListsUpTo}
use Rattle.order_memory.specs.Memory.{MemoryHistory}
use Rattle.model_history.specs.History.{session}
use Rattle.std.proofs.Common.{List, ℕ, sym, subst, arith, ◌≡◌, length, ap, ◌∙◌}
use Rattle.model_history.specs.declared.op_id.OpId.{OpId}
use Rattle.order_causal.specs.Orders.{op}
use Rattle.order_causal.proofs.GatheredLaws.{lists-push, lists-none}
use Rattle.cert_make_cc.specs.BySources.{IsScheduleFor}
use Rattle.cert_make_cc.proofs.by_sources.schedules_of.Goals as goal

pub schedule_of-requires-clause-few : goal.schedule_of-requires-clause-few
schedule_of-requires-clause-few c = let sessions = c.requires.counts.vectors.one_each.sessions in omega arith

pub loop-index-preserved : goal.loop-index-preserved
loop-index-preserved c =
    let o = op c.args.session c.loop-index.index in
    let holds = IsScheduleFor c.args.order.now c.args.vectors.now in
    let goes = c.in_ok-schedule_of.ensures in
    record {
      so_far = rw c.in_ok-push.ensures.ok
          (lists-push holds c.args.session c.loop-index.index c.loop-index.schedules c.schedule.result.now c.loop-index.invariant.so_far
          (subst (λ (xs : List ℕ). holds o xs) (sym c.schedule.ensures)
          (subst (λ (x : OpId). holds x c.schedule_of.new.cutting.walk) c.at-op.ensures goes.schedule)));
      size = goes.size;
      cut = goes.cut;
    }

pub loop-index-init : goal.loop-index-init
loop-index-init c = record {
  so_far = rw c.new-schedules.ensures (lists-none (IsScheduleFor c.args.order.now c.args.vectors.now) c.args.session);
  size = c.in_ok-cutting.ensures.size ∙ c.sessions.ensures;
  cut = c.in_ok-cutting.ensures.cut c.args.whole.now;
}

pub schedule_of-requires-clause-is_op : goal.schedule_of-requires-clause-is_op
schedule_of-requires-clause-is_op c =
    let below = c.loop-index-test.true in
    let count = c.len-index-end.ensures.count in
    let lengths = ap (λ (h : MemoryHistory). length (session h c.args.session)) (c.history.ensures ∙ c.memory.ensures) in
    rw c.at-op.ensures (omega arith)

pub schedule_of-requires-clause-size : goal.schedule_of-requires-clause-size
schedule_of-requires-clause-size c = c.loop-index.invariant.size

pub schedule_of-requires-clause-cut : goal.schedule_of-requires-clause-cut
schedule_of-requires-clause-cut c = c.loop-index.invariant.cut

pub returns : goal.returns
returns c =
    let count = c.len-index-end.ensures.count in
    let lengths = ap (λ (h : MemoryHistory). length (session h c.args.session)) (c.history.ensures ∙ c.memory.ensures) in
    let ended : c.loop-index.index ≡ length (session c.args.order.now c.args.session) = omega arith in
    subst (λ (n : ℕ). AreListsUpTo (IsScheduleFor c.args.order.now c.args.vectors.now) c.args.session n c.loop-index.schedules) ended
    c.loop-index.invariant.so_far
