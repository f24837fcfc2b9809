use Rattle.std.proofs.Common.{ℕ, ◌<◌, ◌≤◌}
use Rattle.std.specs.Prelude.{slice_index_or}
use Rattle.order_memory.proofs.growing_order.next_above.Given as goal

-- the counts so far are no larger
abbrev pub invariant-loop-place : goal.invariant-loop-place
invariant-loop-place l = (s : ℕ) → l.fn.from ≤ s → s < l.place → slice_index_or l.counts s 0 ≤ slice_index_or l.others s 0
