use Rattle.std.proofs.Common.{sym}
use Rattle.log_choices.proofs.ChosenShapes.{left_out-same}
use Rattle.log_choices.proofs.chosen_history.no_choice_leaves_null_reads_out.Goals as goal

pub returns : goal.returns
returns c = λ es. sym (left_out-same es)
