use Rattle.std.specs.Prelude.{◌≡◌, ℕ, length}
use Rattle.judge_columns.specs.Sights.{IsTable}
use Rattle.judge_columns.proofs.sweeping.pass.Given as goal

abbrev pub invariant-loop-operation : goal.invariant-loop-operation
invariant-loop-operation l = record {
  size : length l.last.items ≡ l.index.bound;
  table : (t : ℕ) → IsTable l.index.history l.index.variables t l.fn.from l.fn.last.items
      → IsTable l.index.history l.index.variables t l.operation l.last.items;
}
