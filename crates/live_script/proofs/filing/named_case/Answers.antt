use Rattle.live_script.proofs.CaseForms.{named_case, no_named_case}
use Rattle.live_script.proofs.filing.named_case.Goals as goal

pub returns-in-Some : goal.returns-in-Some
returns-in-Some c = named_case c.args.name.now c.in-Some.criterion (rw c.in-Some.is at c.named.ensures)

pub returns-in-None : goal.returns-in-None
returns-in-None c = no_named_case c.args.name.now (rw c.in-None.is at c.named.ensures)
