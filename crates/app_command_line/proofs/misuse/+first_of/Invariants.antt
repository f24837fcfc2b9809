-- Each call goes on with what comes after the first.
use Rattle.std.proofs.Common.{length}
use Rattle.app_command_line.proofs.misuse.+first_of.Given as goal

abbrev pub decreases-first_of : goal.decreases-first_of
decreases-first_of l = length l.misuses.now
