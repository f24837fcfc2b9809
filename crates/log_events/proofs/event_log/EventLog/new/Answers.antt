use Rattle.log_events.proofs.EndPlaces.{ends-new}
use Rattle.log_events.proofs.KeptLaws.{kept-new}
use Rattle.log_events.proofs.event_log.EventLog.new.Goals as goal

pub invariant_of-result : goal.invariant_of-result
invariant_of-result c = rw (c.new.ensures, c.new-2.ensures, c.new-3.ensures.items, c.new-4.ensures.items, c.new-5.ensures.items) (kept-new, ends-new)
