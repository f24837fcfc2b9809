-- The counts are said, and then that they are few.
use Rattle.app_process.proofs.SaidLaws.{says_both}
use Rattle.app_process.proofs.summary.status_counted.Goals as goal

pub returns-clause-said : goal.returns-clause-said
returns-clause-said g c = says_both _ _ _ c.say_counts.ensures c.say_few.ensures
