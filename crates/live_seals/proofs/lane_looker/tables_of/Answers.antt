use Rattle.std.proofs.Common.{◌+◌, length, ap, ◌∙◌}
use Rattle.live_recorder.proofs.Telling.{length_push}
use Rattle.live_seals.proofs.TableLemmas.{table_fresh, tables_more, fresh_more}
use Rattle.live_seals.proofs.FoundLooks.{tells_none}
use Rattle.live_seals.proofs.lane_looker.tables_of.Goals as goal

pub loop-s-preserved : goal.loop-s-preserved
loop-s-preserved g c = record {
  many = ap length c.in_ok-push.ensures.items ∙ (length_push c.loop-s.tables.items c.in_ok-new.field-0 ∙ ap (λ n. n + 1) c.loop-s.invariant.many);
  each = tables_more c.args.lanes.now.cells c.loop-s.tables.items c.push.new.self.items c.in_ok-new.field-0 c.loop-s.s c.lane.result.now c.loop-s.invariant.many c.lane.ensures
      (table_fresh c.lane.result.now c.in_ok-new.field-0 c.places.result c.places.ensures.lane c.places.ensures.places c.in_ok-new.ensures.returns c.in_ok-new.ensures.calls c.in_ok-new.ensures.no_return c.in_ok-new.ensures.no_call)
      c.in_ok-push.ensures.items c.loop-s.invariant.each;
  fresh = fresh_more c.loop-s.tables.items c.push.new.self.items c.in_ok-new.field-0 c.in_ok-push.ensures.items (λ s. tells_none s c.in_ok-new.field-0 c.in_ok-new.ensures.no_return c.in_ok-new.ensures.no_call) c.loop-s.invariant.fresh;
}
