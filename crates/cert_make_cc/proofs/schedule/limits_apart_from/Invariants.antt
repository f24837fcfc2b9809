use Rattle.std.proofs.Common.{◌≡◌, ◌<◌, ℕ, length, get_or}
use Rattle.order_causal.specs.Vectors.{count}
use Rattle.order_causal.specs.declared.topological.TheConstants.{MAX_PLACED}
use Rattle.cert_make_cc.specs.BySources.{IsApart}
use Rattle.cert_make_cc.proofs.schedule.limits_apart_from.Given as goal

-- the sessions so far have their limits
abbrev pub invariant-loop-session : goal.invariant-loop-session
invariant-loop-session l = record {
  size : length l.limits.items ≡ l.session;
  each : (s : ℕ) → s < l.session → IsApart l.vectors l.write s (count l.vectors l.fn.op s) (get_or l.limits.items s 0);
  small : (s : ℕ) → s < l.session → get_or l.limits.items s 0 < MAX_PLACED;
}
