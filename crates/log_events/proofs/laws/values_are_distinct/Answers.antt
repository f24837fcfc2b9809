use Rattle.log_events.proofs.DistinctValues.{values-distinct}
use Rattle.log_events.proofs.laws.values_are_distinct.Goals as goal

pub returns : goal.returns
returns c = values-distinct
