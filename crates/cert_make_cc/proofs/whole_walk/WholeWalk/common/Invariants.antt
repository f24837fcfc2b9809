use Rattle.std.proofs.Common.{◌<◌, ◌≤◌, ℕ, get_or, take, min}
use Rattle.std.specs.Prelude.{◌≢◌}
use Rattle.order_causal.specs.Schedules.{placed}
use Rattle.cert_make_cc.proofs.whole_walk.WholeWalk.common.Given as goal

-- in the sessions so far the limits agree
abbrev pub invariant-loop-session : goal.invariant-loop-session
invariant-loop-session l = (s : ℕ) → s < l.session → get_or l.limits s 0 ≢ get_or l.others s 0
    → placed (take l.common l.self) s ≤ min (get_or l.limits s 0) (get_or l.others s 0)
