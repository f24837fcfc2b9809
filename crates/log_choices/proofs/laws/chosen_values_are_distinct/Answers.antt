use Rattle.log_choices.proofs.ChosenShapes.{chosen-distinct}
use Rattle.log_choices.proofs.laws.chosen_values_are_distinct.Goals as goal

pub returns : goal.returns
returns c = chosen-distinct
