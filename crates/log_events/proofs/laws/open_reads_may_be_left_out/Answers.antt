use Rattle.log_events.proofs.ForksInserted.{open_read-inserted}
use Rattle.log_events.proofs.ForksLeftOut.{open_read-left_out}
use Rattle.log_events.proofs.laws.open_reads_may_be_left_out.Goals as goal

pub returns : goal.returns
returns c h whole s i x more criterion = (open_read-inserted h whole s i x more criterion, open_read-left_out h whole s i x more criterion)
