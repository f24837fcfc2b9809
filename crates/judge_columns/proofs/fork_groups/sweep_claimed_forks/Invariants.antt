use Rattle.std.specs.Prelude.{◌≡◌, length}
use Rattle.judge_memory.specs.Steps.{many}
use Rattle.judge_columns.specs.Forks.{HasForkSizes}
use Rattle.judge_columns.specs.Groups.{IsSweptForks}
use Rattle.judge_columns.proofs.fork_groups.sweep_claimed_forks.Given as goal

abbrev pub invariant-loop-claim : goal.invariant-loop-claim
invariant-loop-claim l = record {
  sizes : HasForkSizes l.index l.words;
  late : length l.late.items ≡ many l.index.history;
  swept : IsSweptForks l.index.history l.writes l.found;
}
