use Rattle.std.proofs.Common.{◌+◌, arith, length, ap, sym, subst₂, ◌∙◌}
use Rattle.live_recorder.specs.Recorders.{AreLanes, cells_of}
use Rattle.live_recorder.proofs.Telling.{length_push}
use Rattle.live_recorder.proofs.NewLanes.{lanes_none, lanes_pushed}
use Rattle.live_recorder.proofs.lanes.lanes_and_sessions.Goals as goal

pub loop-s-init : goal.loop-s-init
loop-s-init g c = record {
  many = ap length c.in_ok-lanes.ensures.items;
  lanes = subst₂ (λ l s. AreLanes c.args.cap (cells_of l) s)
      (sym c.in_ok-lanes.ensures.items) (sym c.in_ok-sessions.ensures.items) (lanes_none c.args.cap);
}

pub loop-s-preserved : goal.loop-s-preserved
loop-s-preserved g c = record {
  many = ap length c.in_ok-push-2.ensures.items ∙ (length_push c.loop-s.lanes.items c.in_ok-lane.lane ∙ ap (λ n. n + 1) c.loop-s.invariant.many);
  lanes = lanes_pushed c.args.cap c.loop-s.lanes.items c.push-in-loop-s.new.self.items c.in_ok-lane.lane c.loop-s.sessions.items c.push.new.self.items c.new-in-loop-s-2.result c.loop-s.s c.in_ok-try_clone.field-0.value c.loop-s.invariant.many c.loop-s.invariant.lanes
      c.in_ok-push-2.ensures.items c.in_ok-push.ensures.items c.new-in-loop-s-2.ensures c.in_ok-try_clone.ensures (ap (λ l. length l.calls) c.in_ok-lane.ensures.ok ∙ c.in_ok-new.ensures);
}

pub returns : goal.returns
returns g c = record {
  many = let many = c.loop-s.invariant.many in let past = c.loop-s-test.false in let within = c.loop-s.auto.s-end in omega arith;
  lanes = c.loop-s.invariant.lanes;
}
