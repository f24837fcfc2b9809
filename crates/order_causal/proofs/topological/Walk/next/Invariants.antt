use Rattle.std.proofs.Common.{◌<◌, ℕ}
use Rattle.order_causal.specs.Topological.{AreSeen, CanGoOn}
use Rattle.order_causal.proofs.topological.Walk.next.Given as goal

-- none of the sessions so far
abbrev pub invariant-loop-session : goal.invariant-loop-session
invariant-loop-session l = record {
  seen : AreSeen l.vectors l.self l.seen;
  none : (s : ℕ) → s < l.session → ¬ CanGoOn l.vectors l.limits l.self s;
}
