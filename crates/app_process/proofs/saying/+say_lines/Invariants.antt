-- Each call goes on with the text after a line feed.
use Rattle.std.proofs.Common.{length}
use Rattle.app_process.proofs.saying.+say_lines.Given as goal

abbrev pub decreases-say_lines : goal.decreases-say_lines
decreases-say_lines g l = length l.text.now
