-- Each call goes on with what comes after the first.
use Rattle.std.proofs.Common.{length}
use Rattle.app_command_line.proofs.given.+value_of.Given as goal

abbrev pub decreases-value_of : goal.decreases-value_of
decreases-value_of g l = length l.words.now
