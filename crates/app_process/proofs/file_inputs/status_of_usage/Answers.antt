-- Words that ask for nothing are no command line.
use Rattle.app_process.proofs.file_inputs.status_of_usage.Goals as goal

pub returns-in-Ok : goal.returns-in-Ok
returns-in-Ok g c = absurd (c.requires _ c.in-Ok.ensures.asked)
