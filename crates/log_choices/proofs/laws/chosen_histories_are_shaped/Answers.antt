use Rattle.log_choices.proofs.ChosenShapes.{chosen-shaped}
use Rattle.log_choices.proofs.laws.chosen_histories_are_shaped.Goals as goal

pub returns : goal.returns
returns c = chosen-shaped
