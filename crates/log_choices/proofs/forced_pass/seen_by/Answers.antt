use Rattle.log_choices.proofs.ForcedPasses.{look-earlier}
use Rattle.log_choices.proofs.forced_pass.seen_by.Goals as goal

pub returns-in-Some : goal.returns-in-Some
returns-in-Some c = look-earlier c.args.timed.now.in_time c.args.timed.now.log.now c.args.earlier.now c.args.read.place _ c.requires.earlier c.in-Some.ensures
