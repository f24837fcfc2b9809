use Rattle.log_choices.proofs.ForcedAnswers.{all-consistent, out-excluded}
use Rattle.log_choices.proofs.laws.what_is_out_was_not_seen.Goals as goal

pub returns : goal.returns
returns c = out-excluded (all-consistent c.causal_memory_is_causally_consistent.ensures c.causal_convergence_is_causally_consistent.ensures)
