use Rattle.std.proofs.Common.{◌<◌, ◌≤◌, ◌-◌, ℕ, [], length, get_or, min}
use Rattle.order_causal.specs.Orders.{op}
use Rattle.order_causal.specs.Vectors.{IsCounted}
use Rattle.cert_make_cc.proofs.schedule.limit_apart_from.Given as goal

-- none of the first operations counts the write, and the one at the end does, if it is not the last
abbrev pub invariant-loop-free : goal.invariant-loop-free
invariant-loop-free l = record {
  ordered : l.free ≤ l.end;
  within : l.end ≤ min (length (get_or l.vectors l.session [])) l.limit;
  uncounted : (i : ℕ) → i < l.free → ¬ IsCounted l.vectors (op l.session i) l.write;
  counted : l.end < min (length (get_or l.vectors l.session [])) l.limit → IsCounted l.vectors (op l.session l.end) l.write;
}

abbrev pub decreases-loop-free : goal.decreases-loop-free
decreases-loop-free l = l.end - l.free
