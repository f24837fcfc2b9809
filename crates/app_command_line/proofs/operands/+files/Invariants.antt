-- Each call goes on with the words after one.
use Rattle.std.proofs.Common.{length}
use Rattle.app_command_line.proofs.operands.+files.Given as goal

abbrev pub decreases-next_file : goal.decreases-next_file
decreases-next_file g l = length l.words.now

abbrev pub decreases-next_file_after_value : goal.decreases-next_file_after_value
decreases-next_file_after_value g l = length l.words.now
