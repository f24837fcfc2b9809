use Rattle.std.specs.Prelude.{ℕ, ◌<◌, ◌≤◌, ◌-◌}
use Rattle.cert_make.specs.ByOrder.{MayCome}
use Rattle.cert_make.proofs.by_order.end_of_asked.Given as goal

-- all so far may come
abbrev pub invariant-loop-op : goal.invariant-loop-op
invariant-loop-op g l = record {
  behind : l.from ≤ l.end;
  short : l.from < l.end → l.end ≤ l.op.index;
  each : (i : ℕ) → l.from ≤ i → i < l.end → MayCome g.O.SeqObject.query l.h l.reported l.op l.done i;
}

-- how many own operations are left
abbrev pub decreases-loop-op : goal.decreases-loop-op
decreases-loop-op g l = l.op.index - l.end
