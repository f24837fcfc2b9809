-- Each call goes on with what comes after the first.
use Rattle.std.proofs.Common.{length}
use Rattle.app_command_line.proofs.given.+has.Given as goal

abbrev pub decreases-has : goal.decreases-has
decreases-has g l = length l.words.now
