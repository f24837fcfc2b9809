-- Each call goes on with what comes after the first.
use Rattle.std.proofs.Common.{length}
use Rattle.app_command_line.proofs.named_store.+unknown_store.Given as goal

abbrev pub decreases-unknown_store : goal.decreases-unknown_store
decreases-unknown_store g l = length l.words.now
