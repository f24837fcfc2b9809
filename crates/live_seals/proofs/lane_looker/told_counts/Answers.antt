use Rattle.std.proofs.Common.{◌≡◌, ◌<◌, ◌+◌, length, ap, sym, ◌∙◌, subst, rules}
use Rattle.live_recorder.proofs.Telling.{length_push}
use Rattle.live_seals.proofs.TableLemmas.{most_more, reached_more, within_more, told_all}
use Rattle.live_seals.proofs.lane_looker.told_counts.Goals as goal

pub loop-s-preserved : goal.loop-s-preserved
loop-s-preserved g c = record {
  many = ap length c.in_ok-push.ensures.items ∙ (length_push c.loop-s.told.items c.told_count.result ∙ ap (λ n. n + 1) c.loop-s.invariant.many);
  most = most_more c.args.lanes.now c.args.receipts.now c.loop-s.told.items c.push.new.self.items c.loop-s.s c.told_count.result c.loop-s.invariant.many c.in_ok-push.ensures.items c.loop-s.invariant.most c.told_count.ensures.most;
  reached = reached_more c.args.lanes.now c.args.receipts.now c.loop-s.told.items c.push.new.self.items c.loop-s.s c.told_count.result c.loop-s.invariant.many c.in_ok-push.ensures.items c.loop-s.invariant.reached c.told_count.ensures.reached;
  within = within_more c.args.lanes.now c.args.receipts.now c.loop-s.told.items c.push.new.self.items c.loop-s.s c.told_count.result c.loop-s.invariant.many c.in_ok-push.ensures.items c.loop-s.invariant.within c.told_count.ensures.within;
}

pub returns-clause-told : goal.returns-clause-told
returns-clause-told g c =
    let all : c.loop-s.s ≡ length c.args.lanes.now.cells = search (rules, c.loop-s-test.false, c.loop-s.auto, c.len-s-end.ensures.lanes) in
    told_all c.args.lanes.now c.args.receipts.now c.loop-s.told.items c.requires (c.loop-s.invariant.many ∙ all) (λ j r e h. c.loop-s.invariant.most j r e (subst (λ n. r.lane < n) (sym all) h)) c.loop-s.invariant.reached
