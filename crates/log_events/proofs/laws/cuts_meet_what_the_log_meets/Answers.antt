use Rattle.log_events.proofs.CutCriteria.{cut-meets}
use Rattle.log_events.proofs.laws.cuts_meet_what_the_log_meets.Goals as goal

pub returns : goal.returns
returns c es n allowed well starts begun distinct = cut-meets es n allowed well starts begun distinct
