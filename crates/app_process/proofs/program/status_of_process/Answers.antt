-- The status of any run is at most 6.
use Rattle.app_process.proofs.FewLaws.{few_run}
use Rattle.app_process.proofs.program.status_of_process.Goals as goal

pub returns-in-Ok : goal.returns-in-Ok
returns-in-Ok g c = few_run _ _ _ _ _ _ c.args.terminals _ _ _ _ _ _ c.status_of_words-status.ensures
