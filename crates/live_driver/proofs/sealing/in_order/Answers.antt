use Rattle.std.proofs.Common.{◌+◌, length, ap, ◌∙◌}
use Rattle.live_recorder.proofs.Telling.{length_push}
use Rattle.live_driver.proofs.Calls.{one_more_seal}
use Rattle.live_driver.proofs.sealing.in_order.Goals as goal

pub loop-number-preserved : goal.loop-number-preserved
loop-number-preserved g c = record {
  many = ap length c.in_ok-push.ensures.items ∙ (length_push c.loop-number.sealed.items c.in_ok-numbered.field-0 ∙ ap (λ n. n + 1) c.loop-number.invariant.many);
  seals = one_more_seal c.args.run.now.lanes.now c.loop-number.sealed.items c.push.new.self.items c.in_ok-numbered.field-0 c.in_ok-push.ensures.items c.in_ok-numbered.ensures.seal c.loop-number.invariant.seals;
  left = c.in_ok-numbered.ensures.left;
}
