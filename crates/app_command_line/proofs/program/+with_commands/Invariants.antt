-- Each call goes on with the names after one.
use Rattle.std.proofs.Common.{length}
use Rattle.app_command_line.proofs.program.+with_commands.Given as goal

abbrev pub decreases-with_commands : goal.decreases-with_commands
decreases-with_commands l = length l.names.now
