use Rattle.log_choices.proofs.ForcedAnswers.{all-consistent, no-forced}
use Rattle.log_choices.proofs.laws.a_no_of_what_is_forced_is_a_no.Goals as goal

pub returns : goal.returns
returns c = no-forced (all-consistent c.causal_memory_is_causally_consistent.ensures c.causal_convergence_is_causally_consistent.ensures)
