use Rattle.std.specs.Prelude.{◌≡◌, ℕ, ◌<◌, length}
use Rattle.judge_memory.specs.Steps.{many}
use Rattle.judge_columns.specs.Words.{AreInPastBefore, HasBitAt, IsMarked}
use Rattle.judge_columns.proofs.words.find_past_words.Given as goal

abbrev pub invariant-loop-operation : goal.invariant-loop-operation
invariant-loop-operation l = record {
  size : length l.past.items ≡ many l.index.history;
  words : (k : ℕ) → k < 128
      → AreInPastBefore l.index.history l.order (IsMarked l.index.history l.writes l.from k) l.operation-index (λ n. HasBitAt l.past.items n k);
}
