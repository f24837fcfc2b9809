use Rattle.app_logs.proofs.LogLineLaws.{answered_judge}
use Rattle.app_logs.proofs.laws.judged_lines_are_true.Goals as goal

pub returns : goal.returns
returns c = answered_judge
