use Rattle.std.specs.Prelude.{◌≡◌, ℕ, ◌<◌, length}
use Rattle.judge_memory.specs.Steps.{many}
use Rattle.judge_columns.specs.Words.{AreInFutureFrom, HasBitAt, IsMarked}
use Rattle.judge_columns.proofs.words.find_by_giving.Given as goal

abbrev pub invariant-loop-i : goal.invariant-loop-i
invariant-loop-i l = record {
  size : length l.future.items ≡ many l.index.history;
  words : (k : ℕ) → k < 128
      → AreInFutureFrom l.index.history l.order (IsMarked l.index.history l.writes l.from k) l.i (λ n. HasBitAt l.future.items n k);
}
