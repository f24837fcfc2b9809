-- Each call goes on with the words after one.
use Rattle.std.proofs.Common.{length}
use Rattle.app_command_line.proofs.options.+said.Given as goal

abbrev pub decreases-said_with_value : goal.decreases-said_with_value
decreases-said_with_value g l = length l.later.now

abbrev pub decreases-said_in : goal.decreases-said_in
decreases-said_in g l = length l.words.now
