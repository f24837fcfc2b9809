use Rattle.log_choices.proofs.ChosenShapes.{chosen-keys}
use Rattle.log_choices.proofs.laws.chosen_keys_are_small.Goals as goal

pub returns : goal.returns
returns c = chosen-keys
