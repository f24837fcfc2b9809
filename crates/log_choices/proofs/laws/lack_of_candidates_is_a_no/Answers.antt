use Rattle.log_choices.proofs.ForcedAnswers.{all-consistent, no-candidates}
use Rattle.log_choices.proofs.laws.lack_of_candidates_is_a_no.Goals as goal

pub returns : goal.returns
returns c = no-candidates (all-consistent c.causal_memory_is_causally_consistent.ensures c.causal_convergence_is_causally_consistent.ensures)
