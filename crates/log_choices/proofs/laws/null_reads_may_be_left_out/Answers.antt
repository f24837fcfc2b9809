use Rattle.log_choices.proofs.ChosenAnswers.{left_out-no}
use Rattle.log_choices.proofs.ForcedHistories.{part-meets}
use Rattle.log_choices.proofs.laws.null_reads_may_be_left_out.Goals as goal

pub returns : goal.returns
returns c = record { some = part-meets; all = left_out-no }
