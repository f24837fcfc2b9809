use Rattle.std.specs.Prelude.{◌≡◌, ℕ, ◌<◌, length, slice_index_or}
use Rattle.judge_columns.specs.Lanes.{lane_of}
use Rattle.judge_columns.proofs.lanes.take_lanes.Given as goal

abbrev pub invariant-loop-i : goal.invariant-loop-i
invariant-loop-i l = record {
  ends_size : length l.ends.items ≡ length l.initial.ends.items;
  firsts_size : length l.firsts.items ≡ length l.initial.firsts.items;
  ends : (n : ℕ) → n < l.i → slice_index_or l.ends.items n 0 ≡ lane_of l.lanes.ends.items l.lane n;
  firsts : (n : ℕ) → n < l.i → slice_index_or l.firsts.items n 0 ≡ lane_of l.lanes.firsts.items l.lane n;
}
