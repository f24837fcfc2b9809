use Rattle.log_choices.proofs.ChosenAnswers.{untimed-meets}
use Rattle.log_choices.proofs.laws.the_order_of_time_only_takes_candidates_away.Goals as goal

pub returns : goal.returns
returns c = untimed-meets
