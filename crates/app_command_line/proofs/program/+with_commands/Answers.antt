-- The program has the first command, and then those after it.
use Rattle.clap.specs.Words.{app_of}
use Rattle.app_command_line.specs.Steps.Arguments.{with_command}
use Rattle.app_command_line.proofs.Additions.{each_added}
use Rattle.app_command_line.proofs.program.+with_commands.Goals as goal

pub returns-in-Ok : goal.returns-in-Ok
returns-in-Ok t c =
    each_added with_command (app_of c.args.program) (app_of c.in-Ok.next) c.args.names.now _ c.with_commands.result
    c.in-len1-up.len_at_least c.in-Ok.ensures c.with_commands.ensures
