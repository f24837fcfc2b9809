use Rattle.log_events.proofs.HistoryKeys.{keys-small}
use Rattle.log_events.proofs.laws.keys_are_small.Goals as goal

pub returns : goal.returns
returns c = keys-small
