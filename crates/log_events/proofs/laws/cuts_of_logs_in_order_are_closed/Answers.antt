use Rattle.log_events.proofs.ClosedCuts.{in_order-closed}
use Rattle.log_events.proofs.laws.cuts_of_logs_in_order_are_closed.Goals as goal

pub returns : goal.returns
returns c = in_order-closed
