use Rattle.std.proofs.Common.{◌≡◌, length}
use Rattle.judge_cores.proofs.overwriting.first_overwriting.Given as goal

abbrev pub invariant-loop-read : goal.invariant-loop-read
invariant-loop-read l = length l.last.items ≡ l.index.bound
