use Rattle.live_seals.proofs.RunPlaces.{run_none, run_more, run_last}
use Rattle.live_seals.proofs.laws.runs_are_made_event_by_event.Goals as goal

pub returns-clause-none : goal.returns-clause-none
returns-clause-none g c = λ k cap. run_none k cap

pub returns-clause-more : goal.returns-clause-more
returns-clause-more g c = λ k cap es e. (λ run. run_last k cap es e run, λ both. run_more k cap es e both.0 both.1)
