use Rattle.log_events.proofs.CutLogs.{cut-allowed, cut-returns}
use Rattle.log_events.proofs.laws.cuts_are_logs.Goals as goal

pub returns : goal.returns
returns c = record { allowed = cut-allowed; begun = cut-returns }
