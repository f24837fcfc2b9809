use Rattle.log_choices.proofs.ForcedAnswers.{all-consistent, no-round}
use Rattle.log_choices.proofs.laws.going_round_is_a_no.Goals as goal

pub returns : goal.returns
returns c = no-round (all-consistent c.causal_memory_is_causally_consistent.ensures c.causal_convergence_is_causally_consistent.ensures)
