use Rattle.live_script.proofs.CaseForms.{certified_case, no_certified_case}
use Rattle.live_script.proofs.filing.certified_case.Goals as goal

pub returns-in-Some : goal.returns-in-Some
returns-in-Some c = λ d textless read.
    rw c.criterion.ensures (certified_case d textless c.in-Some.certificate (rw c.in-Some.is at read))

pub returns-in-None : goal.returns-in-None
returns-in-None c = λ d textless read. no_certified_case d textless (rw c.in-None.is at read)
