-- What is asked for is what all that was said to the command asks for.
use Rattle.std.proofs.Common.{None, map, subst}
use Rattle.app_command_line.specs.declared.said.Said.{Said}
use Rattle.app_command_line.specs.Options.{Say}
use Rattle.app_command_line.proofs.Saying.{task_given}
use Rattle.app_command_line.proofs.options.asked_of.Goals as goal

pub returns-in-Some-said_in : goal.returns-in-Some-said_in
returns-in-Some-said_in g c =
    task_given c.args.sight c.args.word.now (map g.S.AsStr.text c.args.words.now) c.in-Some.command c.in-Some-said_in.said c.asked.result c.in-Some.ensures
    (subst (λ (s : Said). Say s None (map g.S.AsStr.text c.args.words.now) c.in-Some-said_in.said) c.nothing.ensures c.in-Some-said_in.ensures)
    c.asked.ensures
