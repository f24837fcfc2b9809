use Rattle.log_events.proofs.HistoryShape.{history-shaped}
use Rattle.log_events.proofs.laws.histories_are_shaped.Goals as goal

pub returns : goal.returns
returns c = history-shaped
