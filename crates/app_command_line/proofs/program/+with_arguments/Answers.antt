-- The command has the first argument, and then those after it.
use Rattle.clap.specs.Words.{app_of}
use Rattle.app_command_line.specs.Steps.Arguments.{with_argument}
use Rattle.app_command_line.proofs.Additions.{each_added}
use Rattle.app_command_line.proofs.program.+with_arguments.Goals as goal

pub returns-in-Ok-clause-app : goal.returns-in-Ok-clause-app
returns-in-Ok-clause-app t c =
    each_added with_argument (app_of c.args.command) (app_of c.in-Ok.next) c.args.arguments.now _ c.with_arguments.result
    c.in-len1-up.len_at_least c.in-Ok.ensures.app c.with_arguments.ensures.app
