use Rattle.std.specs.Prelude.{None}
use Rattle.log_events.specs.Histories.{write}
use Rattle.log_events.proofs.ForksInserted.{last-inserted}
use Rattle.log_events.proofs.UnreadOperations.{unread-left_out}
use Rattle.log_events.proofs.laws.unread_writes_may_be_left_out.Goals as goal

pub returns : goal.returns
returns c h whole s i x v end more unread criterion =
    (last-inserted h whole s i x v end more criterion, unread-left_out h whole s i (write x v None) more unread criterion)
