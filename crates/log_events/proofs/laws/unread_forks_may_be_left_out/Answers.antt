use Rattle.log_events.proofs.ForksInserted.{fork-inserted}
use Rattle.log_events.proofs.ForksLeftOut.{fork-left_out}
use Rattle.log_events.proofs.laws.unread_forks_may_be_left_out.Goals as goal

pub returns : goal.returns
returns c h whole s i t m x v forked fresh other unread criterion =
    (fork-inserted h whole s i t m x v forked fresh criterion, fork-left_out h whole s i t m x v forked fresh other unread criterion)
