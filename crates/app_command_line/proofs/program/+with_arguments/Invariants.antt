-- Each call goes on with the arguments after one.
use Rattle.std.proofs.Common.{length}
use Rattle.app_command_line.proofs.program.+with_arguments.Given as goal

abbrev pub decreases-with_arguments : goal.decreases-with_arguments
decreases-with_arguments l = length l.arguments.now
