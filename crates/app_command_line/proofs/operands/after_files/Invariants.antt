-- What is left says what all the words say, and is no longer than they are.
use Rattle.std.proofs.Common.{◌≤◌, length, map}
use Rattle.app_command_line.specs.Steps.Files.{SaySame}
use Rattle.app_command_line.proofs.operands.after_files.Given as goal

abbrev pub invariant-files : goal.invariant-files
invariant-files g l = SaySame (map g.S.AsStr.text l.fn.words) (map g.S.AsStr.text l.rest) × (length l.rest ≤ length l.fn.words)

abbrev pub decreases-files : goal.decreases-files
decreases-files g l = length l.rest
