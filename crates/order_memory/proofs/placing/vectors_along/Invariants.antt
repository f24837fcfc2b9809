use Rattle.std.proofs.Common.{◌≡◌, ℕ, [], length, get_or, take}
use Rattle.order_memory.specs.Sources.{AreVectorsSoFar}
use Rattle.order_causal.specs.Schedules.{placed}
use Rattle.order_memory.proofs.placing.vectors_along.Given as goal

-- the vectors so far are right, and are those of the operations that are named so far
abbrev pub invariant-loop-session : goal.invariant-loop-session
invariant-loop-session l = record {
  so_far : AreVectorsSoFar l.sources l.vectors;
  placed : (s : ℕ) → length (get_or l.vectors s []) ≡ placed (take l.session-index l.schedule) s;
}
