-- Each call goes on with the list after a comma.
use Rattle.std.proofs.Common.{length}
use Rattle.app_command_line.proofs.expected.+expected_after.Given as goal

abbrev pub decreases-expected_after : goal.decreases-expected_after
decreases-expected_after l = length l.list.now
