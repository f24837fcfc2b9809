use Rattle.std.specs.Prelude.{◌≡◌, length, slice_index_or}
use Rattle.judge_memory.specs.Steps.{many}
use Rattle.judge_columns.specs.Columns.{AreFirstsFrom}
use Rattle.judge_columns.proofs.passes.find_firsts.Given as goal

abbrev pub invariant-loop-i : goal.invariant-loop-i
invariant-loop-i l = record {
  size : length l.firsts.items ≡ many l.index.history;
  exact : AreFirstsFrom l.index.history l.session l.order l.i (λ n. slice_index_or l.firsts.items n 0);
}
