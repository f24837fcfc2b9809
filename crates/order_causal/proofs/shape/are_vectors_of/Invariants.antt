use Rattle.std.proofs.Common.{◌≡◌, ℕ, ◌<◌, [], length, get_or}
use Rattle.order_causal.specs.Orders.{op}
use Rattle.order_causal.specs.Vectors.{list_of}
use Rattle.order_causal.proofs.shape.are_vectors_of.Given as goal

-- the vectors of the sessions so far have one count for each session
abbrev pub invariant-loop-session : goal.invariant-loop-session
invariant-loop-session g l =
    (s i : ℕ) → s < l.session → i < length (get_or l.v s []) → length (list_of l.v (op s i)) ≡ length l.h.1
