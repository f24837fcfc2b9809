use Rattle.log_choices.proofs.ChosenShapes.{left_out-same}
use Rattle.log_choices.proofs.laws.history_of_a_log_leaves_null_reads_out.Goals as goal

pub returns : goal.returns
returns c = left_out-same
