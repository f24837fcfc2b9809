use Rattle.log_choices.proofs.ForcedAnswers.{all-consistent}
use Rattle.log_choices.proofs.ChosenCuts.{chosen_cut-meets}
use Rattle.log_choices.proofs.laws.cuts_in_time_meet_what_the_log_meets.Goals as goal

pub returns : goal.returns
returns c = chosen_cut-meets (all-consistent c.causal_memory_is_causally_consistent.ensures c.causal_convergence_is_causally_consistent.ensures)
