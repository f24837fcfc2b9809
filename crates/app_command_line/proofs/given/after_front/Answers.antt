-- What `strip_prefix` gives is what follows the front.
use Rattle.app_command_line.proofs.Misuses.{front_cut, no_front}
use Rattle.app_command_line.proofs.given.after_front.Goals as goal

pub returns-in-Some : goal.returns-in-Some
returns-in-Some c = front_cut c.args.front.now c.args.word.now c.in-Some.rest.now c.in-Some.ensures.cases

pub returns-in-None : goal.returns-in-None
returns-in-None c = no_front c.args.front.now c.args.word.now c.in-None.ensures.cases
