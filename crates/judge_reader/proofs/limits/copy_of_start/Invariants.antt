use Rattle.std.proofs.Common.{◌≡◌, take}
use Rattle.judge_reader.proofs.limits.copy_of_start.Given as goal

abbrev pub invariant-loop-key : goal.invariant-loop-key
invariant-loop-key l = l.copy ≡ take l.key-index l.start
