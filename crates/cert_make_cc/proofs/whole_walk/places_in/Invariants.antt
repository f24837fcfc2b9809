use Rattle.std.proofs.Common.{◌≡◌, ◌≤◌, ℕ, length, take, get_or}
use Rattle.order_causal.specs.Schedules.{placed}
use Rattle.cert_make_cc.proofs.whole_walk.places_in.Given as goal

-- the operations so far have their places
abbrev pub invariant-loop-place : goal.invariant-loop-place
invariant-loop-place l = record {
  size : length l.places.items ≡ placed (take l.place l.schedule) l.session;
  each : (i : ℕ) → placed (take (get_or l.places.items i 0) l.schedule) l.session ≤ i;
}
