use Rattle.std.specs.Prelude.{◌≡◌, ℕ, ◌<◌, length}
use Rattle.judge_memory.specs.Steps.{many}
use Rattle.judge_columns.specs.Columns.{ArePastEndsBefore}
use Rattle.judge_columns.specs.Lanes.{in_lane, lane_of}
use Rattle.judge_columns.proofs.lanes.find_past_end_rows.Given as goal

abbrev pub invariant-loop-operation : goal.invariant-loop-operation
invariant-loop-operation l = record {
  size : length l.rows.items ≡ many l.index.history;
  exact : (k : ℕ) → k < 4
      → ArePastEndsBefore l.index.history (in_lane l.sessions k) l.order l.operation-index (lane_of l.rows.items k);
}
