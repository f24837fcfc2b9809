use Rattle.std.specs.Prelude.{◌≡◌, ℕ, ◌<◌, length}
use Rattle.judge_memory.specs.Steps.{many}
use Rattle.judge_columns.specs.Columns.{AreFirstsFrom}
use Rattle.judge_columns.specs.Lanes.{in_lane, lane_of}
use Rattle.judge_columns.proofs.lanes.find_first_rows.Given as goal

abbrev pub invariant-loop-i : goal.invariant-loop-i
invariant-loop-i l = record {
  size : length l.rows.items ≡ many l.index.history;
  exact : (k : ℕ) → k < 4 → AreFirstsFrom l.index.history (in_lane l.sessions k) l.order l.i (lane_of l.rows.items k);
}
