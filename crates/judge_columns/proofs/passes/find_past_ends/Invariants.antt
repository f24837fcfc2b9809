use Rattle.std.specs.Prelude.{◌≡◌, length, slice_index_or}
use Rattle.judge_memory.specs.Steps.{many}
use Rattle.judge_columns.specs.Columns.{ArePastEndsBefore}
use Rattle.judge_columns.proofs.passes.find_past_ends.Given as goal

abbrev pub invariant-loop-operation : goal.invariant-loop-operation
invariant-loop-operation l = record {
  size : length l.ends.items ≡ many l.index.history;
  exact : ArePastEndsBefore l.index.history l.session l.order l.operation-index (λ n. slice_index_or l.ends.items n 0);
}
