use Rattle.log_events.proofs.ClosedCuts.{closed_cut-meets}
use Rattle.log_events.proofs.laws.closed_cuts_meet_what_the_log_meets.Goals as goal

pub returns : goal.returns
returns c = closed_cut-meets
