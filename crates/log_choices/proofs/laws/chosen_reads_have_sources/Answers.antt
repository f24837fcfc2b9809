use Rattle.log_choices.proofs.ChosenShapes.{chosen-sources}
use Rattle.log_choices.proofs.laws.chosen_reads_have_sources.Goals as goal

pub returns : goal.returns
returns c = chosen-sources
