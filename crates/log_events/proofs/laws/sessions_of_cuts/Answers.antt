use Rattle.log_events.proofs.CutSessions.{cut-session, cut-begins}
use Rattle.log_events.proofs.laws.sessions_of_cuts.Goals as goal

pub returns : goal.returns
returns c = record { alike = λ es n client allowed. cut-session es n allowed client; plain = λ es n client allowed. cut-begins es n allowed client }
