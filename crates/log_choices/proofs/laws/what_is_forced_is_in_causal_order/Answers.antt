use Rattle.log_choices.proofs.ForcedAnswers.{all-consistent}
use Rattle.log_choices.proofs.ChosenEffects.{forced-CO}
use Rattle.log_choices.proofs.laws.what_is_forced_is_in_causal_order.Goals as goal

pub returns : goal.returns
returns c = forced-CO (all-consistent c.causal_memory_is_causally_consistent.ensures c.causal_convergence_is_causally_consistent.ensures)
