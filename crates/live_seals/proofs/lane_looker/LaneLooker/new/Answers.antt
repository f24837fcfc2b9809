use Rattle.std.proofs.Common.{sym, subst}
use Rattle.live_seals.specs.Steps.Tables.{TellsLooks}
use Rattle.live_seals.proofs.TableLemmas.{counts_within}
use Rattle.live_seals.proofs.lane_looker.LaneLooker.new.Goals as goal

pub invariant_of-result : goal.invariant_of-result
invariant_of-result g c = record {
  of = c.requires;
  counts = c.in_ok-counts.ensures.told;
  within = counts_within c.args.lanes.now.cells c.in_ok-counts.counts.items c.most_places-cap.result c.in_ok-counts.ensures.told.many c.in_ok-counts.ensures.within c.most_places-cap.ensures;
  places = c.most_places-cap.ensures;
  tables = c.in_ok-tables.ensures.tables;
  looked = λ s t e. subst (λ ls. TellsLooks ls s t) (sym c.new.ensures.items) (c.in_ok-tables.ensures.fresh s t e);
}
